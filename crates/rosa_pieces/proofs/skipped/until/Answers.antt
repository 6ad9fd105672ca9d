use Rattle.std.proofs.Common.{sym, ◌∙◌, arith, ◌-◌, ◌+◌, ◌≡◌, length, take, drop}
use Rattle.std.proofs.lemmas.List.{length-take, length-drop}
use Rattle.rosa_pieces.proofs.Skips.{until_starts, until_stops, until_goes_on, until_nil}
use Rattle.rosa_pieces.proofs.skipped.until.Goals as goal

pub returns-then-starts_with-clause-value : goal.returns-then-starts_with-clause-value
returns-then-starts_with-clause-value c = until_starts _ c.loop-rest.rest.now c.c-item.result _ _ c.in-len1-up.len_at_least c.c-item.is (sym c.starts_with.ensures.value ∙ c.if-starts_with.true) c.loop-rest.invariant.left

pub returns-then-not-is_xml_char-clause-value : goal.returns-then-not-is_xml_char-clause-value
returns-then-not-is_xml_char-clause-value c = until_stops _ c.loop-rest.rest.now c.c-item.result _ _ c.in-len1-up.len_at_least c.c-item.is (sym c.starts_with.ensures.value ∙ c.if-starts_with.false) (sym c.is_xml_char.ensures ∙ c.if-not-is_xml_char.true) c.loop-rest.invariant.left

pub loop-rest-preserved : goal.loop-rest-preserved
loop-rest-preserved c =
    let n : length (take (length c.loop-rest.rest.now - 1) (drop 1 c.loop-rest.rest.now)) + 1 ≡ length c.loop-rest.rest.now = simp (length-take, length-drop) (omega arith) in
    record {
      shorter = omega arith;
      left = until_goes_on _ c.loop-rest.rest.now c.c-item.result _ _ _ c.in-len1-up.len_at_least c.c-item.is (sym c.starts_with.ensures.value ∙ c.if-starts_with.false) (sym c.is_xml_char.ensures ∙ c.if-not-is_xml_char.false) (omega arith) c.loop-rest.invariant.left;
    }

pub returns-clause-value : goal.returns-clause-value
returns-clause-value c = until_nil _ c.loop-rest.rest.now _ _ c.in_default.len_below c.loop-rest.invariant.left

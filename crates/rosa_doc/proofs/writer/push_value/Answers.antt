use Rattle.std.specs.Str.Iter.{chars_rest}
use Rattle.std.proofs.lemmas.Str.{IsUtf8-past_char}
use Rattle.rosa_doc.specs.Escapes.{in_value}
use Rattle.rosa_doc.proofs.Writing.{writes_on, written, kept_on}
use Rattle.rosa_doc.proofs.writer.push_value.Goals as goal

pub loop-c-preserved : goal.loop-c-preserved
loop-c-preserved c =
    let before = chars_rest c.loop-c.c-iterator in
    let after = chars_rest c.next.new.self in
    record {
      left = writes_on in_value before after c.loop-c.out.items _ _ c.in-Some.c c.loop-c.invariant.utf8 c.in-Some.ensures.steps.0 c.in_ok-push_in_value.ensures.ok c.loop-c.invariant.left;
      kept = kept_on c.args.out.now.items c.loop-c.out.items _ (in_value c.in-Some.c) c.in_ok-push_in_value.ensures.ok c.loop-c.invariant.kept;
      utf8 = IsUtf8-past_char before after c.in-Some.c c.loop-c.invariant.utf8 c.in-Some.ensures.steps.0;
    }

pub returns-clause-ok : goal.returns-clause-ok
returns-clause-ok c = written in_value (chars_rest c.loop-c.c-iterator) c.loop-c.out.items _ c.in-None.ensures.steps.0.0 c.loop-c.invariant.left

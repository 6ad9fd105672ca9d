use Rattle.std.proofs.Common.{◌≡◌, ◌+◌, ◌<◌, ◌++◌, ◌∷◌, [], List, ℕ, Bor, Vec, Global, Some, take, length, add-one, arith, ap, sym, refl, ◌∙◌}
use Rattle.std.specs.Prelude.{option_map}
use Rattle.std.proofs.lemmas.List.{map-append}
use Rattle.std.proofs.Math.Seq.{take-suc}
use Rattle.csv.specs.Records.{field_at, fields_of}
use Rattle.csv.proofs.RecordFacts.{field-get, field-there}
use Rattle.entity_lists.specs.CsvRecords.{contents}
use Rattle.entity_lists.proofs.csv_records.fields_in.Goals as goal
use Rattle.entity_lists.proofs.csv_records.fields_in.Goals.{in-Some+in_ok-push, in_default}

pub loop-place-preserved : goal.loop-place-preserved
loop-place-preserved c =
    let fields = fields_of c.args.row.now in
    let place = c.loop-place.place in
    let within : place < length fields = omega (arith, c.len-place-end.ensures, c.loop-place-test.true) in
    elim c.match-get.branch [
      | in-Some+in_ok-push w ↦
          let field : List ℕ = w.in-Some.field.now in
          let is : field_at fields place ≡ Some field = sym c.get.ensures.value ∙ ap (option_map (λ (b : Bor (List ℕ)). b.now)) w.in-Some.is in
          let read = ap (λ (v : Vec (Bor (List ℕ)) Global). contents v.items) w.fields-is ∙ ap contents w.in_ok-push.ensures.items ∙ map-append (λ (b : Bor (List ℕ)). b.now) c.loop-place.fields.items (w.in-Some.field ∷ []) in
          let step : take (place + 1) fields ≡ take place fields ++ field ∷ [] =
          rw (add-one place, take-suc fields place [] within, field-get fields place field is) refl in
          read ∙ ap (λ (t : List (List ℕ)). t ++ field ∷ []) c.loop-place.invariant ∙ sym step
      | in_default w ↦ absurd (field-there fields place within (sym c.get.ensures.value ∙ ap (option_map (λ (b : Bor (List ℕ)). b.now)) w.in_default.is))
    ]

-- The two halves that are written make the number of the id.
use Rattle.std.proofs.Common.{◌≡◌, ◌+◌, ◌*◌, ◌^◌, arith, ap, sym, ◌∙◌}
use Rattle.std.specs.Int.{to_be_bytes, w128}
use Rattle.field_ids.specs.Ids.{id_of, text_of_id}
use Rattle.field_ids.proofs.IdLemmas.{same_draw}
use Rattle.field_ids.proofs.ids.draw.Goals as goal

pub returns-clause-value : goal.returns-clause-value
returns-clause-value c = c.from_u64_pair.ensures ∙ ap (to_be_bytes w128) (omega arith)

pub returns-clause-unique_text : goal.returns-clause-unique_text
returns-clause-unique_text c d k d_fits k_fits same =
    let value : c.from_u64_pair.result ≡ id_of c.args.device c.args.counter = c.from_u64_pair.ensures ∙ ap (to_be_bytes w128) (omega arith) in
    same_draw c.args.device c.args.counter d k c.requires.device_in_range c.requires.counter_in_range d_fits k_fits (ap text_of_id (sym value) ∙ same)

-- An entry that a journal can take.
use Rattle.std.specs.Prelude.{◌≤◌, length}
use Rattle.entry_form.specs.declared.entry.Entry.{Entry}
use Rattle.entry_codec.specs.Spelling.{IsShort, spelling}
use Rattle.device_rules.specs.Limits.{largest_payload}

pub record FitsPayload (entry : Entry) : Type 0 where
  -- its texts and blobs have lengths that can be spelled
  pub short : IsShort entry
  pub some : 1 ≤ length (spelling entry)
  pub small : length (spelling entry) ≤ largest_payload

-- The ids that a device draws: UUIDs of version 8 (RFC 9562, section 5.8), whose free bits hold device and counter.
use Rattle.std.specs.Prelude.{ℕ, ◌+◌, ◌*◌, ◌^◌, List}
use Rattle.std.specs.Int.{to_be_bytes, w128}
use Rattle.uuid.specs.Text.{hyphenated_text, lower}

-- from the high bits down: 48 bits of the device, 4 of the version 8, 12 of 0, 2 of the variant, 62 of the counter
abbrev pub id_number : ℕ → ℕ → ℕ
id_number device counter = device * 2 ^ 80 + 8 * 2 ^ 76 + 2 * 2 ^ 62 + counter

-- the sixteen bytes of an id, the high one first
abbrev pub id_of : ℕ → ℕ → List ℕ
id_of device counter = to_be_bytes w128 (id_number device counter)

-- the text of an id: its hexadecimal digits in lower case, with hyphens
abbrev pub text_of_id : List ℕ → List ℕ
text_of_id id = hyphenated_text lower id

-- The digits of a number have its value, so the bytes are those of one number or of none.
use Rattle.std.proofs.Common.{◌≡◌, ℕ, List, ◌≤◌, nat_le, ◌&&◌, true, false, if◌then◌else◌, Some, None}
use Rattle.std.proofs.Common.{arith, ap, sym, refl, ◌∙◌}
use Rattle.std.specs.Fmt.{decimal}
use Rattle.std.specs.Str.{bytes_eq}
use Rattle.std.specs.Str.Parse.{digits_value}
use Rattle.std.proofs.lemmas.Bool.{le-leb}
use Rattle.std.proofs.lemmas.Fmt.{decimal_is_IsNumeral}
use Rattle.std.proofs.lemmas.Slice.Eq.{bytes_eq-Decides}
use Rattle.entity_lists.specs.ServerRows.{version_in}
use Rattle.entity_lists.specs.Versions.{version_of}
use Rattle.entity_lists.proofs.server_rows.version_of.Goals as goal

found : (text : List ℕ) (n : ℕ) → n ≤ 999999999999999 → text ≡ decimal n → version_of n ≡ version_in text
found text n high is =
    let value : digits_value 10 text ≡ n = ap (digits_value 10) is ∙ (decimal_is_IsNumeral n (omega arith)).1 in
    let same : bytes_eq (decimal n) text ≡ true = (bytes_eq-Decides (decimal n) text).1 (sym is) in
    rw (value, same, le-leb n 999999999999999 high, le-leb n 1000000000000000 (omega arith))
    (elim (nat_le 1 n) as (λ b. (if b && true then Some n else None) ≡ (if (true && b) && true then Some n else None))
    [ true ↦ refl | false ↦ refl ])

pub returns-in-Some : goal.returns-in-Some
returns-in-Some c = c.from_number.ensures ∙ found c.args.bytes.now c.in-Some.value c.if-value-le-SERVER_VERSION_LIMIT.true c.in-Some.ensures.found

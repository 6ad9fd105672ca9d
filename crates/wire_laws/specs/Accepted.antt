-- The status of bytes as a reply, and whether they accept a submission, as functions of the bytes.
use Rattle.std.specs.Prelude.{ℕ, Bool, ◌||◌, ◌==◌, List}
use Rattle.std.proofs.Common.{inl, inr}
use Rattle.httparse.specs.Grammar.{status_code}
use Rattle.wire_laws.specs.ReplyHeads.{final_decided}

-- the status of the final head, 0 without one
unfoldable pub status_in : List ℕ → ℕ
status_in bytes = elim (final_decided bytes) [ inl found ↦ status_code found.0 | inr none ↦ 0 ]

-- the status is 201 or 202
unfoldable pub accepts : List ℕ → Bool
accepts bytes = (status_in bytes == 201) || (status_in bytes == 202)

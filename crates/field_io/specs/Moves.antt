-- What a call moves out of a source or into a sink. The content is told or not: one that isn't told is never told
-- later, and what stands here of a content holds where it is told after the call.
use Rattle.std.specs.Prelude.{◌≡◌, ℕ, ◌≤◌, List, [], ◌++◌, length, take, Option, Some, None, Result, Ok, IfOk, IfSome}
use Rattle.std.specs.Prelude.{OnErr}
use Rattle.std.specs.Option.{option_map}

-- what is left before and after a call that moved bytes into the buffer
pub record Takes {E : Type 0} (old new : Option (List ℕ)) (result : Result ℕ E) (buffer : List ℕ) : Type 0 where
  pub within : IfOk result (λ n. n ≤ length buffer)
  pub moved : IfOk result (λ n. IfSome new (λ rest. old ≡ Some (take n buffer ++ rest)))
  pub ended : result ≡ Ok 0 → IfSome new (λ rest. rest ≡ [])
  pub failed : OnErr result (IfSome new (λ rest. old ≡ Some rest))

-- what is held before and after a call that was given the bytes
pub record Puts {E : Type 0} (old new : Option (List ℕ)) (result : Result ℕ E) (bytes : List ℕ) : Type 0 where
  pub some : IfOk result (λ n. 1 ≤ n)
  pub within : IfOk result (λ n. n ≤ length bytes)
  pub moved : IfOk result (λ n. IfSome new (λ held. option_map (λ before. before ++ take n bytes) old ≡ Some held))
  pub failed : OnErr result (IfSome new (λ held. old ≡ Some held))

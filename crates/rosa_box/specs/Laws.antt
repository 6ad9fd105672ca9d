-- What holds of the server over any requests.
use Rattle.std.specs.Prelude.{◌≡◌, ◌≢◌, ℕ, List, [], ◌∷◌, ◌++◌, AllPairs, Contains}
use Rattle.rosa_box.specs.declared.asked.Asked.TheVariants.{Submission}
use Rattle.rosa_box.specs.declared.reply.Status.TheVariants.{Created}
use Rattle.rosa_box.specs.declared.state.BoxKept.{BoxKept}
use Rattle.rosa_box.specs.declared.state.BoxState.{BoxState}
use Rattle.rosa_box.specs.Answers.{reply_text}
use Rattle.rosa_box.specs.Asked.{Asks}
use Rattle.rosa_box.specs.Served.{Serves}

-- requests one after another take the server from one state to another
pub data ServesAll : BoxState → List (List ℕ) → BoxState → Type 0 where
  at_rest : {state : BoxState} → ServesAll state [] state
  onward : {before middle after : BoxState} {request reply : List ℕ} {others : List (List ℕ)}
      → Serves before request middle reply → ServesAll middle others after
      → ServesAll before (request ∷ others) after

-- what the server had it has; documents may stand behind those that were kept
pub record IsLater (before after : BoxState) : Type 0 where
  pub more : List BoxKept
  pub grown : after ≡ record before { kept = before.kept ++ more }

abbrev pub IdsDiffer : List BoxKept → Type 0
IdsDiffer kept = AllPairs (λ a b. a.instance_id ≢ b.instance_id) kept

-- What is kept stays, with the same bytes.
abbrev pub KeptStay : Type 0
KeptStay = (before after : BoxState) (requests : List (List ℕ)) → ServesAll before requests after
    → IsLater before after

-- No two documents come to be kept under one id.
abbrev pub IdsStayApart : Type 0
IdsStayApart = (before after : BoxState) (requests : List (List ℕ)) → ServesAll before requests after
    → IdsDiffer before.kept → IdsDiffer after.kept

-- A request has one answer at most, and leads to one state.
abbrev pub AnswersAreOne : Type 0
AnswersAreOne = (before one other : BoxState) (request reply again : List ℕ) → Serves before request one reply
    → Serves before request other again → (one ≡ other) × (reply ≡ again)

-- Where a request is answered that a document was taken, it is kept.
abbrev pub TakenAreKept : Type 0
TakenAreKept = (before after : BoxState) (request : List ℕ) → Serves before request after (reply_text Created)
    → (new : BoxKept) × Asks request (Submission new) × Contains after.kept new

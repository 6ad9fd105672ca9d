-- A server as the peer of a dialer.
use Rattle.std.specs.Prelude.{ℕ, List}
use Rattle.rosa_box.specs.declared.dialer.BoxDialer.{BoxDialer}
use Rattle.rosa_box.specs.declared.state.BoxState.{BoxState}

-- what the server had at first, and the numbers of the calls that are to fail
pub record BoxPeer : Type 0 where
  pub state : BoxState
  pub fails : List ℕ

-- what the server has
abbrev pub state_of : BoxDialer → BoxState
state_of d = d.session.state

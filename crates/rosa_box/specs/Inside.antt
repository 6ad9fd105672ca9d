-- A session by its fields.
use Rattle.std.specs.Prelude.{◌≡◌, ◌≤◌, false, length, None, IfSome, MatchOption}
use Rattle.rosa_box.specs.Sessions.{SessionView, Stands, first_state}
use Rattle.rosa_box.specs.declared.session.Session.TheInside.{Inside}

abbrev pub session_view : Inside → SessionView
session_view i = record {
  start = first_state i.first i.state;
  state = i.state;
  carried = i.log;
  is_open = i.is_open;
  has_taken = i.has_taken;
}

pub record IsSound (i : Inside) : Type 0 where
  pub begun : i.first ≤ length i.state.kept
  pub within : MatchOption i.reply (i.count ≡ 0) (λ r. i.count ≤ length r)
  pub fresh : i.has_taken ≡ false → i.reply ≡ None
  pub stands : IfSome i.log (Stands (first_state i.first i.state) i.state i.is_open i.sent i.count i.reply)

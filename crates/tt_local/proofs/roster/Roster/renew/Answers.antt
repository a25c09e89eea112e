use Rattle.std.proofs.Common.{◌∙◌, ◌≤◌, length, arith}
use Rattle.std.proofs.lemmas.Option.{slice_get-get_or}
use Rattle.tt_local.proofs.RosterLemmas.{all_taken, renewed, touched_more, tracks_on}
use Rattle.tt_local.proofs.roster.Roster.renew.Goals as goal

pub loop-key-preserved : goal.loop-key-preserved
loop-key-preserved c = record {
  clients = c.touch.ensures.clients ∙ c.loop-key.invariant.clients;
  tracks = tracks_on c.args.self.now c.loop-key.self c.touch.new.self c.loop-key.invariant.tracks c.touch.ensures.tracks;
  touched = touched_more c.as_slice-key-items.result.now c.loop-key.key-index _ c.args.self.now.clients c.loop-key.self c.touch.new.self
      c.loop-key-test.true (slice_get-get_or c.as_slice-key-items.result.now c.loop-key.key-index _ c.loop-key-test.true)
      c.loop-key.invariant.clients c.loop-key.invariant.touched c.touch.ensures.tracks c.touch.ensures.touched;
}

pub returns-clause-renewed : goal.returns-clause-renewed
returns-clause-renewed c =
    let past = c.loop-key-test.false in
    let all : length c.as_slice-key-items.result.now ≤ c.loop-key.key-index = omega (arith, past) in
    renewed c.args.now c.loop-key.self c.args.self.now.clients c.in_ok-aged.aged.items c.loop-key.invariant.clients
    (rw (← c.self.view_is) c.in_ok-aged.ensures)
    (all_taken c.as_slice-key-items.result.now c.loop-key.key-index _ all c.as_slice-key-items.ensures.value c.loop-key.invariant.touched)

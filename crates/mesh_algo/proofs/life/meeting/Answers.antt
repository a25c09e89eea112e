use Rattle.std.proofs.Common.{◌≡◌, ◌&&◌, ◌∙◌, Bool, true, false, not, ap, ap₂, sym, rules}
use Rattle.mesh_model.specs.Routes.Life.{may_restart, meeting}
use Rattle.mesh_model.specs.Routes.Numbers.{may_begin}
use Rattle.mesh_model.specs.declared.route.Meeting.{Meeting}
use Rattle.mesh_algo.proofs.LifeRows.{restarted_by_row}
use Rattle.mesh_algo.proofs.life.meeting.Goals as goal

-- how a number meets a life, by whether it is wild and whether it may be a restart
abbrev meeting_by : Bool → Bool → Meeting
meeting_by wild may = record { late = wild && not may; restart = wild && may }

pub returns-then-not-is_wild : goal.returns-then-not-is_wild
unfolding meeting
returns-then-not-is_wild c = λ alive row.
    let tame : c.is_wild.result ≡ false = search rules in
    ap (λ w. meeting_by w (may_restart c.args.now alive)) (sym tame ∙ c.is_wild.ensures alive row)

pub returns : goal.returns
unfolding meeting
returns c = λ alive row.
    let wild : c.is_wild.result ≡ true = search rules in
    ap₂ meeting_by (sym wild ∙ c.is_wild.ensures alive row) (c.may_begin-restart.ensures ∙ ap (may_begin c.args.now) (c.restarted_of.ensures ∙ restarted_by_row alive c.args.life.now row))

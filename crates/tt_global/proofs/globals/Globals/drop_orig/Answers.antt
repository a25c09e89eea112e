use Rattle.std.proofs.Common.{subst, sym}
use Rattle.tt_global.specs.Globals.{GlobalsStand}
use Rattle.tt_global.proofs.StandLemmas.{dropped}
use Rattle.tt_global.proofs.globals.Globals.drop_orig.Goals as goal

pub returns : goal.returns
returns c =
    λ calls stands.
    dropped calls c.args.orig c.self.inside.known.entries c.shift_remove.new.self.entries (subst (λ k. GlobalsStand k calls) (sym c.self.view_is) stands) c.shift_remove.ensures.entries c.shift_remove.ensures.updates.0

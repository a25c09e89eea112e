use Rattle.std.proofs.Common.{◌≡◌, ◌∙◌, ◌+◌, ap, arith, is_some, sym, true, false}
use Rattle.mesh_model.specs.Tables.Gathered.{has_records}
use Rattle.tt_global.proofs.PartLemmas.{have_more, lent_there}
use Rattle.tt_global.proofs.gathered.PartBeside.have.Goals as goal
use Rattle.tt_global.proofs.gathered.PartBeside.have.Goals.{then-is_some, else-is_some}

pub loop-number-preserved : goal.loop-number-preserved
loop-number-preserved c =
    let here : has_records c.loop-number.number c.args.self.now ≡ c.is_some.result = ap is_some (sym c.at.ensures) ∙ lent_there c.at.result ∙ sym c.is_some.ensures in
    elim c.if-is_some.branch [
      | then-is_some w ↦ have_more c.args.self.now c.loop-number.number c.loop-number.have c.if-is_some.have true c.loop-number.invariant.0 c.loop-number.invariant.1 (here ∙ w.if-is_some.true) w.have-is
      | else-is_some w ↦
          let same : c.if-is_some.have ≡ c.loop-number.have + 0 = omega (arith, w.have-is) in
          have_more c.args.self.now c.loop-number.number c.loop-number.have c.if-is_some.have false c.loop-number.invariant.0 c.loop-number.invariant.1 (here ∙ w.if-is_some.false) same
    ]

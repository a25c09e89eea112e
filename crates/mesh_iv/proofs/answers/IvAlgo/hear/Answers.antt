use Rattle.std.proofs.Common.{◌≡◌, ◌∷◌, sym, subst}
use Rattle.mesh_model.specs.Routes.RouteLog.{HeadCame}
use Rattle.mesh_iv.specs.Hears.{input_of}
use Rattle.mesh_iv.specs.Tables.{StandsFor}
use Rattle.mesh_iv.proofs.answers.IvAlgo.hear.Goals as goal

pub returns-clause-noted : goal.returns-clause-noted
returns-clause-noted c =
    λ me log stands.
    let came = c.in-Some.ensures in
    let same : input_of c.in-Some.ogm c.args._tp ≡ HeadCame c.args.now c.args.from c.args._tp c.args.head.now
    = λ i. HeadCame (came.0 i) (came.1 i) c.args._tp (sym came.2 i) in
    subst (λ input. StandsFor me c.hear_ogm.new.self (input ∷ log)) same (c.in_ok-hearing.ensures.noted me log c.args._tp stands)

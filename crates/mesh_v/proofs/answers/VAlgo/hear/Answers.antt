use Rattle.std.proofs.Common.{◌∙◌, ◌∷◌, ap, sym, subst}
use Rattle.mesh_model.specs.Routes.AlgorithmV.{v_answer}
use Rattle.mesh_model.specs.Routes.HearingsV.{heard_v}
use Rattle.mesh_model.specs.Routes.Neighbours.{is_up}
use Rattle.mesh_model.specs.Routes.Ogm2.{ogm2_of_head}
use Rattle.mesh_model.specs.Routes.RouteLog.{HeadCame}
use Rattle.mesh_v.specs.Tables.{StandsFor}
use Rattle.mesh_v.proofs.answers.VAlgo.hear.Goals as goal

pub returns-in_ok-hear_elp-in-Elp-clause-noted : goal.returns-in_ok-hear_elp-in-Elp-clause-noted
returns-in_ok-hear_elp-in-Elp-clause-noted c =
    λ me log stands.
    subst (λ head. StandsFor me c.hear_elp.new.self (HeadCame c.args.now c.args.from c.args.tp head ∷ log)) (sym c.in-Elp.is)
    (c.in_ok-hear_elp-in-Elp.ensures.noted me log c.in-Elp.seq c.in-Elp.interval stands)

pub returns-in_ok-hearing-in-Ogm2-clause-noted : goal.returns-in_ok-hearing-in-Ogm2-clause-noted
returns-in_ok-hearing-in-Ogm2-clause-noted c =
    λ me log stands.
    subst (λ head. StandsFor me c.hear_ogm.new.self (HeadCame c.args.now c.args.from c.args.tp head ∷ log)) (sym c.in-Ogm2.is)
    (c.in_ok-hearing-in-Ogm2.ensures.noted me log stands)

pub returns-in_ok-hearing-in-Ogm2-clause-heard : goal.returns-in_ok-hearing-in-Ogm2-clause-heard
returns-in_ok-hearing-in-Ogm2-clause-heard c =
    λ me log stands.
    c.in_ok-hearing-in-Ogm2.ensures.heard me log stands
    ∙ sym (ap (λ head. v_answer me (λ k. is_up c.args.now k log) c.args.now c.args.from c.args.tp (ogm2_of_head head) (heard_v me log)) c.in-Ogm2.is)

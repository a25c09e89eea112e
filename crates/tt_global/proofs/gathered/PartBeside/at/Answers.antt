use Rattle.std.proofs.Common.{◌≡◌, ◌∙◌, ap, cond, subst, sym, None, Some}
use Rattle.std.proofs.lemmas.Bool.{eq-eqb}
use Rattle.mesh_model.specs.Tables.Gathered.{records_at}
use Rattle.tt_global.specs.Lent.{lent}
use Rattle.tt_global.proofs.PartLemmas.{at_beside, not_same}
use Rattle.tt_global.proofs.gathered.PartBeside.at.Goals as goal

pub returns-in-Some : goal.returns-in-Some
returns-in-Some c =
    subst (λ g. Some c.in-Some.records.now ≡ records_at c.args.number g) c.self.view_is
    (at_beside c.args.number c.self.inside.number c.self.inside.count c.self.inside.records.now c.self.inside.gathered.now (Some c.in-Some.records.now) (ap lent (sym c.in-Some.is) ∙ c.at.ensures))

pub returns-in-None : goal.returns-in-None
returns-in-None c =
    subst (λ g. Some c.self.inside.records.now ≡ records_at c.args.number g) c.self.view_is
    (ap (λ b. cond b (Some c.self.inside.records.now) None) (sym (eq-eqb c.args.number c.self.inside.number c.if-number-self.true))
    ∙ at_beside c.args.number c.self.inside.number c.self.inside.count c.self.inside.records.now c.self.inside.gathered.now None (ap lent (sym c.in-None.is) ∙ c.at.ensures))

pub returns-in-None-2 : goal.returns-in-None-2
returns-in-None-2 c =
    subst (λ g. None ≡ records_at c.args.number g) c.self.view_is
    (ap (λ b. cond b (Some c.self.inside.records.now) None) (sym (not_same c.args.number c.self.inside.number c.if-number-self.false))
    ∙ at_beside c.args.number c.self.inside.number c.self.inside.count c.self.inside.records.now c.self.inside.gathered.now None (ap lent (sym c.in-None.is) ∙ c.at.ensures))

use Rattle.std.proofs.Common.{◌≡◌, ◌∙◌, ap, cond, sym, true, false}
use Rattle.mesh_model.specs.Routes.Addresses.{same_mac}
use Rattle.mesh_model.specs.Bridges.Verdicts.{Ours, Anothers}
use Rattle.mesh_bla.proofs.ClaimLemmas.{hold_by_row, hold_of_row}
use Rattle.mesh_bla.proofs.claims.Claims.hold.Goals as goal

pub returns-in-Some : goal.returns-in-Some
returns-in-Some c =
    λ me calls stands.
    let ours : same_mac c.in-Some.row.holder c.args.self.now.me ≡ true = ap (λ claims. same_mac c.in-Some.row.holder claims.me) (sym c.self.view_is) ∙ sym c.eq.ensures ∙ c.if-eq.true in
    sym (ap (λ b. cond b (Ours c.in-Some.row.age) Anothers) ours)
    ∙ ap (hold_by_row c.args.self.now.me) (sym c.in-Some.is) ∙ hold_of_row c.args.self.now me calls c.args.now stands c.args.source c.standing.result (c.standing.ensures me calls stands)

pub returns-in-Some-2 : goal.returns-in-Some-2
returns-in-Some-2 c =
    λ me calls stands.
    let others : same_mac c.in-Some.row.holder c.args.self.now.me ≡ false = ap (λ claims. same_mac c.in-Some.row.holder claims.me) (sym c.self.view_is) ∙ sym c.eq.ensures ∙ c.if-eq.false in
    sym (ap (λ b. cond b (Ours c.in-Some.row.age) Anothers) others)
    ∙ ap (hold_by_row c.args.self.now.me) (sym c.in-Some.is) ∙ hold_of_row c.args.self.now me calls c.args.now stands c.args.source c.standing.result (c.standing.ensures me calls stands)

pub returns-in-None : goal.returns-in-None
returns-in-None c =
    λ me calls stands.
    ap (hold_by_row c.args.self.now.me) (sym c.in-None.is) ∙ hold_of_row c.args.self.now me calls c.args.now stands c.args.source c.standing.result (c.standing.ensures me calls stands)

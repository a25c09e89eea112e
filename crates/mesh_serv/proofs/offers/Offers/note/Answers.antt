use Rattle.std.proofs.Common.{◌≡◌, ◌∙◌, Some, ap, option_map, rules, subst, sym}
use Rattle.mesh_serv.specs.OffersStand.{OffersStand, offered}
use Rattle.mesh_serv.proofs.OfferLemmas.{noted, noted_again}
use Rattle.mesh_serv.proofs.offers.Offers.note.Goals as goal

pub returns-then-eq-clause-ok : goal.returns-then-eq-clause-ok
returns-then-eq-clause-ok c =
    λ offers stands.
    let same : c.offer_of.result ≡ Some c.args.offer = search rules in
    noted_again c.args.orig c.args.offer c.args.self.now offers stands (sym (c.offer_of.ensures offers stands) ∙ ap (option_map offered) same)

pub returns-clause-ok : goal.returns-clause-ok
returns-clause-ok c =
    λ offers stands.
    let done = c.in_ok-insert_sorted.ensures in
    noted c.args.orig c.args.offer c.self.inside.kept.entries c.insert_sorted.new.self.entries done.sorted done.unique done.updates.0 offers
    (subst (λ kept. OffersStand kept offers) (sym c.self.view_is) stands)

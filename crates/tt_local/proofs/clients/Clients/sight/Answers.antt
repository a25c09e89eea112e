use Rattle.std.proofs.Common.{◌≡◌, ◌∙◌, None, Some, is_some, option_and_then, rules, ap, refl, subst, sym}
use Rattle.std.specs.Map.{set_value}
use Rattle.std.proofs.lemmas.Map.Steps.{set_value_same}
use Rattle.std.proofs.lemmas.Result.{err_from_is_err_and}
use Rattle.mesh_model.specs.Clients.Present.{same_key}
use Rattle.tt_local.specs.Clients.{client_at, known_client, with_sighting}
use Rattle.tt_local.specs.Moments.{AreMoments, is_moment, moment_of}
use Rattle.tt_local.proofs.MomentsLemmas.{moments_after, sighted_news}
use Rattle.tt_local.proofs.clients.Clients.sight.Goals as goal

pub add-requires : goal.add-requires
add-requires c =
    let same : c.get_mut.follows.lender-at-none.entries ≡ c.self.inside.map.entries = search rules in
    let unknown : client_at c.self.inside.map.entries c.args.key ≡ None = search rules in
    ap (λ clients. client_at clients c.args.key) same ∙ unknown

pub change-requires : goal.change-requires
change-requires c =
    let found : client_at c.self.inside.map.entries c.args.key ≡ Some c.in-Some.client.now = search rules in record {
      before = λ at. c.self.invariant.moments at c.args.key
          ∙ ap (λ o. is_moment at (option_and_then moment_of o)) found ∙ ap (is_moment at) (sym c.moment.ensures);
    }

-- what is refused writes back the client that was found
pub invariant_of-self-in_err-change : goal.invariant_of-self-in_err-change
invariant_of-self-in_err-change c =
    let old = c.self.inside.map.entries in
    let found : client_at old c.args.key ≡ Some c.in-Some.client.now = search rules in
    let written : (c.get_mut.follows.lender c.in-Some.client.now).entries ≡ set_value (same_key c.args.key) old c.in-Some.client.now = search rules in
    let same = written ∙ set_value_same (same_key c.args.key) old c.in-Some.client.now found in
    subst (λ clients. AreMoments clients c.change.new.self) (sym same)
    (subst (AreMoments old) (sym c.in_err-change.ensures.err) c.self.invariant)

pub returns-in_err-change-clause-err : goal.returns-in_err-change-clause-err
returns-in_err-change-clause-err c =
    let old = c.self.inside.map.entries in
    let found : client_at old c.args.key ≡ Some c.in-Some.client.now = search rules in
    let written : (c.get_mut.follows.lender c.in-Some.client.now).entries ≡ set_value (same_key c.args.key) old c.in-Some.client.now = search rules in
    let error = err_from_is_err_and c.from_residual.result c.from_residual.ensures.1 in
    rw error.1 (written ∙ set_value_same (same_key c.args.key) old c.in-Some.client.now found ∙ c.self.view_is)

pub invariant_of-self-2 : goal.invariant_of-self-2
invariant_of-self-2 c =
    let old = c.self.inside.map.entries in
    let found : client_at old c.args.key ≡ Some c.in-Some.client.now = search rules in
    let client = with_sighting (Some (record { flags = c.args.flags; moment = c.args.now })) c.in-Some.client.now in
    let written = c.get_mut.follows.holds client in
    moments_after old (c.get_mut.follows.lender client).entries c.self.inside.moments c.change.new.self c.args.key (Some client) (Some c.args.now) c.self.invariant
    (written.3 (ap is_some found)).0 written.4 refl c.in_ok-change.ensures.ok

pub returns-clause-news : goal.returns-clause-news
returns-clause-news c =
    let old = c.self.inside.map.entries in
    let found : client_at old c.args.key ≡ Some c.in-Some.client.now = search rules in
    let client = with_sighting (Some (record { flags = c.args.flags; moment = c.args.now })) c.in-Some.client.now in
    let written = c.get_mut.follows.holds client in
    rw (← c.self.view_is) (sighted_news c.args.now c.args.key c.args.flags old old (c.get_mut.follows.lender client).entries c.in-Some.client.now
    refl (sym (ap known_client found)) (written.3 (ap is_some found)).0)

use Rattle.std.proofs.Common.{◌≡◌, None, ap, is_some, subst, sym, ◌∙◌}
use Rattle.std.specs.Map.{lookup}
use Rattle.std.specs.Ordering.{eq_by_cmp}
use Rattle.std.proofs.lemmas.Bool.{false≢true}
use Rattle.mesh_model.specs.contracts.service.PairOrd.TheImpl.Laws.{matches_eq-law}
use Rattle.mesh_model.specs.declared.service.Pair.{Pair}
use Rattle.mesh_model.specs.Services.ArpTable.{Learned, pair_order}
use Rattle.mesh_dat.specs.Cache.{CacheStands}
use Rattle.mesh_dat.proofs.CacheLemmas.{kept_there, looked_up, noted}
use Rattle.mesh_dat.proofs.cache.Cache.learn.Goals as goal

pub returns-clause-ok : goal.returns-clause-ok
returns-clause-ok c =
    λ learned stands.
    let new : Learned = record { moment = c.args.now; ip = c.args.ip; vid = c.args.vid; mac = c.args.mac } in
    let done = c.in_ok-insert_sorted.ensures in
    noted _ matches_eq-law new c.self.inside.kept.entries c.insert_sorted.new.self.entries done.sorted done.unique done.updates.0 learned
    (subst (λ kept. CacheStands kept learned) (sym c.self.view_is) stands)

pub returns-in_err-insert_sorted-clause-known : goal.returns-in_err-insert_sorted-clause-known
returns-in_err-insert_sorted-clause-known c =
    λ learned stands there.
    let pair : Pair = record { ip = c.args.ip; vid = c.args.vid } in
    let kept = c.self.inside.kept.entries in
    let absent : lookup (eq_by_cmp pair_order pair) kept ≡ None = sym (looked_up _ matches_eq-law pair kept) ∙ c.in_err-insert_sorted.ensures.absent in
    absurd (false≢true (ap is_some (sym absent) ∙ kept_there kept learned pair (subst (λ k. CacheStands k learned) (sym c.self.view_is) stands) there))

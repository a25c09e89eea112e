use Rattle.std.proofs.Common.{◌≡◌, ◌∙◌, List, [], ℕ, None, filter, slice_index_or, refl, sym, subst}
use Rattle.std.specs.Result.{IfOk}
use Rattle.std.specs.Global.{Vec}
use Rattle.mesh_post.specs.Lanes.{is_other}
use Rattle.mesh_net.proofs.WatchLemmas.{gateways_take, none_takes}
use Rattle.mesh_net.proofs.watch.gateways_of_put.Goals as goal

pub returns-in-Some : goal.returns-in-Some
returns-in-Some c = λ older last ticks mesh step.
    subst (λ (xs : List ℕ). IfOk c.gateways.result (λ (places : Vec ℕ). places.items ≡ xs))
    (gateways_take c.args.post.now older last ticks mesh c.args.place c.in-Some.put (filter (is_other None) (slice_index_or c.args.post.now.lans.items c.in-Some.put.lan [])) step (sym c.put_at.ensures ∙ c.in-Some.is) refl)
    c.gateways.ensures

pub returns-in-None : goal.returns-in-None
returns-in-None c = λ older last ticks mesh step.
    none_takes c.args.post.now older last ticks mesh c.args.place c.new.result.items step (sym c.put_at.ensures ∙ c.in-None.is) c.new.ensures.items

use Rattle.std.proofs.Common.{◌≡◌, ◌++◌, ◌∷◌, ◌∙◌, List, [], ℕ, slice_get, option_and_then, ap, subst}
use Rattle.std.specs.Option.{option_map_or}
use Rattle.std.specs.Result.{IfOk}
use Rattle.std.specs.Global.{Vec}
use Rattle.mesh_model.specs.Net.Mesh.{SentFrame}
use Rattle.mesh_net.proofs.WatchLemmas.{one_or_none}
use Rattle.mesh_net.proofs.watch.takers.Goals as goal

pub returns-in-LinkDelivery : goal.returns-in-LinkDelivery
returns-in-LinkDelivery c = rw c.in-LinkDelivery.is (λ older last ticks mesh step.
    subst (λ (xs : List ℕ). IfOk c.places_of.result (λ (places : Vec ℕ). places.items ≡ xs))
    (ap (λ o. option_map_or (λ (one : ℕ). one ∷ []) o []) (c.receiver.ensures (older ++ c.args.post.now.fresh.items) mesh step.amid.stands)
    ∙ one_or_none (option_and_then (λ (frame : SentFrame). slice_get mesh.links frame.link) (slice_get mesh.frames c.args.h.place)))
    c.places_of.ensures)

pub returns-in-LanDelivery : goal.returns-in-LanDelivery
returns-in-LanDelivery c = rw c.in-LanDelivery.is (λ older last ticks mesh step. c.gateways_of_put.ensures older last ticks mesh step)

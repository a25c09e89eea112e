use Rattle.std.proofs.Common.{◌≡◌, replicate, length, slice_get, Some, sym, ap, ◌∙◌, arith}
use Rattle.std.specs.Option.{option_map_or}
use Rattle.mesh_base.specs.declared.address.Mac.{Mac}
use Rattle.mesh_model.specs.Net.Mesh.{NodeLog}
use Rattle.mesh_post.proofs.LookUps.{got}
use Rattle.mesh_net.proofs.SeatLemmas.{seat_at, no_seat_at}
use Rattle.mesh_net.proofs.net.Net.mac_at.Goals as goal

abbrev zero_mac : Mac
zero_mac = record { 0 = replicate 6 0 }

pub returns-in-Some : goal.returns-in-Some
returns-in-Some g c = λ nodes all.
    let k = c.in-Some.ensures.lookup in
    let found : slice_get c.args.self.now.seats.items c.args.place ≡ Some c.in-Some.seat.now = rw (← c.deref.ensures.value) (got c.deref.result.now c.args.place c.in-Some.seat.now k.3.0 k.1) in
    let s = seat_at g.A.Algo.queries g.A.Algo.stands c.args.self.now.seats.items nodes c.args.place c.in-Some.seat.now all found in
    s.2.mac ∙ sym (ap (λ o. option_map_or (λ (n : NodeLog). n.mac) o zero_mac) s.1)

pub returns-in-None : goal.returns-in-None
returns-in-None g c = λ nodes all.
    let high = c.in-None.ensures.lookup.3 in
    let same = ap length c.deref.ensures.value in
    sym (ap (λ o. option_map_or (λ (n : NodeLog). n.mac) o zero_mac) (no_seat_at g.A.Algo.queries g.A.Algo.stands c.args.self.now.seats.items nodes c.args.place all (omega (arith, high, same))))

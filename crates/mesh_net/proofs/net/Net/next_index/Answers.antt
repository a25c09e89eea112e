use Rattle.std.proofs.Common.{length, ap, arith}
use Rattle.std.proofs.lemmas.Option.{slice_get_within}
use Rattle.mesh_net.proofs.net.Net.next_index.Goals as goal

pub returns-in-None : goal.returns-in-None
returns-in-None g c = λ seat found low.
    let high = c.in-None.ensures.lookup.3 in
    let same = ap length c.deref.ensures.value in
    let within = slice_get_within c.args.self.now.seats.items c.args.place seat found in
    absurd (omega (arith, high, same, within))

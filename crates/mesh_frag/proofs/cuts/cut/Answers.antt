use Rattle.std.proofs.Common.{ap₂, List, ℕ, sym}
use Rattle.mesh_model.specs.Fragments.Cutting.{Cut, fragments_within, reach_of}
use Rattle.mesh_frag.proofs.CutLemmas.{goes_nowhere, goes_there}
use Rattle.mesh_frag.proofs.cuts.cut.Goals as goal

pub unreachable-requires : goal.unreachable-requires
unreachable-requires c = goes_nowhere (reach_of c.args.packet.now) c.requires.unicast c.in_default.ensures

pub returns : goal.returns
returns c =
    let cut : List ℕ → Cut = λ bytes. record { most = c.args.most; number = c.args.number; me = c.args.me; packet = bytes } in
    let reach = goes_there (reach_of c.args.packet.now) c.in-Some.ttl c.in-Some.dst c.in-Some.ensures in
    ap₂ (λ bytes o. fragments_within (cut bytes) o) c.in_ok-packet.ensures.ok (sym reach)

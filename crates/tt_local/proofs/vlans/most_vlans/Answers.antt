use Rattle.std.proofs.Common.{◌≡◌, ◌+◌, ◌≤◌, ◌∷◌, cond, length, subst, sym, rules}
use Rattle.mesh_model.specs.Clients.Limits.{distinct_vids}
use Rattle.tt_local.specs.Vlans.{has_vid}
use Rattle.tt_local.proofs.VlansLemmas.{few_with}
use Rattle.tt_local.proofs.vlans.most_vlans.Goals as goal

pub returns : goal.returns
returns c = λ vids among.
    let more : c.from.result ≡ cond (has_vid c.args.named.now c.args.vid) 0 1 = search rules in
    subst (λ n. length (distinct_vids (c.args.vid ∷ vids)) ≤ length c.args.named.now + n) (sym more) (few_with vids c.args.named.now c.args.vid among)

use Rattle.std.proofs.Common.{◌≡◌, ◌≤◌, ◌<◌, List, ◌∷◌, length, subst, sym, arith, rules}
use Rattle.mesh_base.specs.declared.client.Vid.{Vid}
use Rattle.mesh_model.specs.Clients.Limits.{distinct_vids}
use Rattle.tt_local.specs.Locals.{LocalsView, LocalsStand}
use Rattle.tt_local.specs.Vlans.{AreAmong}
use Rattle.std.proofs.lemmas.Bool.{leb-true}
use Rattle.tt_local.proofs.VlansLemmas.{room_beside}
use Rattle.tt_local.proofs.locals.Locals.has_room.Goals as goal

pub returns-then-len-lt-CLIENTS_LIMIT : goal.returns-then-len-lt-CLIENTS_LIMIT
returns-then-len-lt-CLIENTS_LIMIT c = λ few mentions history since now stands late.
    let was = subst (λ (v : LocalsView). LocalsStand v mentions history since) (sym c.self.view_is) stands in
    let most = leb-true c.most_vlans.result 16 few in
    let long : c.len.result ≡ length c.self.inside.roster.clients = search rules in
    let less = c.if-len-lt-CLIENTS_LIMIT.true in
    let fewer : length c.self.inside.roster.clients < 4096 = omega (arith, long, less) in
    let named : c.as_slice.result.now ≡ c.self.inside.vlans.items = search rules in
    let each : (vids : List Vid) → AreAmong vids c.self.inside.vlans.items → length (distinct_vids (c.args.vid ∷ vids)) ≤ 16 = λ vids among.
    let few_vlans = c.most_vlans.ensures vids (subst (AreAmong vids) (sym named) among) in
    omega (arith, few_vlans, most) in
    room_beside c.self.inside.vlans.items c.self.inside.roster.clients mentions since now c.args.vid was.clients late c.self.invariant.1 fewer each

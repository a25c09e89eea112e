use Rattle.std.proofs.Common.{◌≡◌, length, slice_set, slice_index_or, sym, subst, ◌∙◌, ap, [], ◌∷◌, ◌++◌, arith}
use Rattle.mesh_post.specs.Kept.{RowsAre, TurnsAre, WaysAre}
use Rattle.mesh_post.proofs.Besides.{step_over}
use Rattle.mesh_post.proofs.JoinLemmas.{awaits_linked, rows_linked, turns_linked, ways_linked}
use Rattle.mesh_post.proofs.post.Post.add_link.Goals as goal

pub returns-clause-joins : goal.returns-clause-joins
returns-clause-joins c = λ older last ticks mesh link step sound is.
    let s = step.amid.stands in
    let t = c.in_ok-push.ensures.items in
    let r = c.in_ok-push-2.ensures.ok in
    let w = c.in_ok-way.ensures.is in
    let l = c.in_ok-leave.ensures in
    let k = c.len.ensures in
    let count = s.rows.count in
    let way_is : c.in_ok-way.way ≡ length mesh.links = omega (arith, w, k, count) in
    step_over step
    (subst (RowsAre mesh.nodes (mesh.links ++ link ∷ [])) (sym r) (rows_linked mesh.nodes mesh.links link c.args.self.now.rows c.args.row s.rows is))
    (subst (TurnsAre (mesh.links ++ link ∷ []) mesh.frames) (sym t) (turns_linked mesh.links link mesh.frames c.args.self.now.turns.items sound.on_links s.turns))
    (subst (WaysAre mesh.nodes (mesh.links ++ link ∷ [])) (sym (l ∙ ap (λ n. slice_set c.args.self.now.ways.items n (slice_index_or c.args.self.now.ways.items n [] ++ c.in_ok-way.way ∷ [])) is.from)) (ways_linked mesh.nodes mesh.links link c.args.self.now.ways.items c.in_ok-way.way is.starts way_is s.ways))
    (awaits_linked c.args.self.now.queue last ticks mesh.links link mesh.frames mesh.puts sound.on_links step.amid.waits)

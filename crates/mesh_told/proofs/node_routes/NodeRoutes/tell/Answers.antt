use Rattle.std.proofs.Common.{◌∙◌, ap, append-nil, subst, sym, map, rules, List, ◌++◌}
use Rattle.mesh_model.specs.Net.Watching.{lines_due, route_event, told_with}
use Rattle.mesh_told.specs.Told.{Table, TableStands, entries_told}
use Rattle.mesh_told.specs.declared.node_routes.Seen.{Seen}
use Rattle.mesh_told.proofs.TableLemmas.{lines_are, none_are_due, tells_all}
use Rattle.mesh_told.proofs.node_routes.NodeRoutes.tell.Goals as goal

pub returns-then-is_seen-clause-ok : goal.returns-then-is_seen-clause-ok
returns-then-is_seen-clause-ok c = λ told stands.
    let none = none_are_due c.args.now c.args.node c.args.rows.now told c.args.self.now.next.entries c.args.self.now.seen.items (c.is_seen.ensures (search rules)) stands in
    subst (λ lines. TableStands c.args.node c.args.self.now.next.entries c.args.self.now.seen.items (told_with told lines)) (sym none) stands

pub returns-then-is_seen-clause-told : goal.returns-then-is_seen-clause-told
returns-then-is_seen-clause-told c = λ told stands.
    sym (append-nil c.args.log.now)
    ∙ ap (λ lines. c.args.log.now ++ map route_event lines) (sym (none_are_due c.args.now c.args.node c.args.rows.now told c.args.self.now.next.entries c.args.self.now.seen.items (c.is_seen.ensures (search rules)) stands))

pub returns-clause-ok : goal.returns-clause-ok
returns-clause-ok c = λ told stands.
    let due = told_with told (lines_due c.args.now c.args.node c.args.rows.now told) in
    let table = ap (λ n. n.entries) c.see.ensures.kept ∙ c.in_ok-tell_all.ensures.set in
    subst (λ (es : Table). TableStands c.args.node es c.see.new.self.seen.items due) (sym table)
    (subst (λ (ss : List Seen). TableStands c.args.node (entries_told c.args.rows.now c.meet.new.self.next.entries) ss due) (sym c.in_ok-see.ensures.seen)
    (tells_all c.args.now c.args.node c.args.rows.now told c.args.self.now.next.entries c.meet.new.self.next.entries c.args.self.now.seen.items c.in_ok-meet.ensures stands))

pub returns-clause-told : goal.returns-clause-told
returns-clause-told c = λ told stands.
    c.in_ok-tell_all.ensures.told
    ∙ ap (λ lines. c.args.log.now ++ map route_event lines)
    (lines_are c.args.now c.args.node c.args.rows.now told c.args.self.now.next.entries c.meet.new.self.next.entries c.args.self.now.seen.items c.in_ok-meet.ensures stands)

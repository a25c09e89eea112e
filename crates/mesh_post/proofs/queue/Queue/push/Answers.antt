use Rattle.std.proofs.Common.{sym, subst, ◌++◌, List}
use Rattle.mesh_model.specs.declared.happening.Happening.{Happening}
use Rattle.mesh_post.specs.Waiting.{Joins}
use Rattle.mesh_post.proofs.QueueLemmas.{joined}
use Rattle.mesh_post.proofs.RisingLemmas.{joins_end, joins_left, joins_right}
use Rattle.mesh_post.proofs.queue.Queue.push.Goals as goal

pub returns-in_ok-push-clause-ok : goal.returns-in_ok-push-clause-ok
returns-in_ok-push-clause-ok c =
    let i = c.self.inside in
    subst (λ (q : List Happening). Joins c.args.h q (c.push.new.self ++ (i.second ++ (i.third ++ i.others.keys)))) c.self.view_is
    (joins_left i.first c.push.new.self (i.second ++ (i.third ++ i.others.keys)) c.args.h (subst (Joins c.args.h i.first) (sym c.in_ok-push.ensures.ok) (joins_end i.first c.args.h)))

pub returns-in_ok-push-2-clause-ok : goal.returns-in_ok-push-2-clause-ok
returns-in_ok-push-2-clause-ok c =
    let i = c.self.inside in
    let new = c.push-then-takes-2.new.self in
    subst (λ (q : List Happening). Joins c.args.h q (i.first ++ (new ++ (i.third ++ i.others.keys)))) c.self.view_is
    (joins_right i.first (i.second ++ (i.third ++ i.others.keys)) (new ++ (i.third ++ i.others.keys)) c.args.h
    (joins_left i.second new (i.third ++ i.others.keys) c.args.h (subst (Joins c.args.h i.second) (sym c.in_ok-push-2.ensures.ok) (joins_end i.second c.args.h))))

pub returns-in_ok-push-3-clause-ok : goal.returns-in_ok-push-3-clause-ok
returns-in_ok-push-3-clause-ok c =
    let i = c.self.inside in
    let new = c.push-then-takes-3.new.self in
    subst (λ (q : List Happening). Joins c.args.h q (i.first ++ (i.second ++ (new ++ i.others.keys)))) c.self.view_is
    (joins_right i.first (i.second ++ (i.third ++ i.others.keys)) (i.second ++ (new ++ i.others.keys)) c.args.h
    (joins_right i.second (i.third ++ i.others.keys) (new ++ i.others.keys) c.args.h
    (joins_left i.third new i.others.keys c.args.h (subst (Joins c.args.h i.third) (sym c.in_ok-push-3.ensures.ok) (joins_end i.third c.args.h)))))

pub returns-in_ok-insert-clause-ok : goal.returns-in_ok-insert-clause-ok
returns-in_ok-insert-clause-ok c =
    let i = c.self.inside in
    let new = c.insert.new.self.keys in
    subst (λ (q : List Happening). Joins c.args.h q (i.first ++ (i.second ++ (i.third ++ new)))) c.self.view_is
    (joins_right i.first (i.second ++ (i.third ++ i.others.keys)) (i.second ++ (i.third ++ new)) c.args.h
    (joins_right i.second (i.third ++ i.others.keys) (i.third ++ new) c.args.h
    (joins_right i.third i.others.keys new c.args.h (subst (Joins c.args.h i.others.keys) (sym c.in_ok-insert.ensures.keys) (joined i.others.keys c.args.h)))))

use Rattle.std.proofs.Common.{sym, subst, ◌++◌, List}
use Rattle.mesh_model.specs.declared.happening.Happening.{Happening}
use Rattle.mesh_model.specs.Net.Next.{AtMost, Has}
use Rattle.mesh_post.specs.Waiting.{Leaves}
use Rattle.mesh_post.proofs.RisingLemmas.{leaves_both, low_here, low_there, none_leaves}
use Rattle.mesh_post.proofs.queue.Queue.leave.Goals as goal

pub leave-requires : goal.leave-requires
leave-requires c =
    let i = c.self.inside in
    low_here i.first (i.second ++ (i.third ++ i.others.keys)) c.args.h (subst (λ (q : List Happening). (x : Happening) → Has q x → AtMost c.args.h x) (sym c.self.view_is) c.requires)

pub leave-requires-2 : goal.leave-requires-2
leave-requires-2 c =
    let i = c.self.inside in
    low_here i.second (i.third ++ i.others.keys) c.args.h
    (low_there i.first (i.second ++ (i.third ++ i.others.keys)) c.args.h (subst (λ (q : List Happening). (x : Happening) → Has q x → AtMost c.args.h x) (sym c.self.view_is) c.requires))

pub leave-requires-3 : goal.leave-requires-3
leave-requires-3 c =
    let i = c.self.inside in
    low_here i.third i.others.keys c.args.h (low_there i.second (i.third ++ i.others.keys) c.args.h
    (low_there i.first (i.second ++ (i.third ++ i.others.keys)) c.args.h (subst (λ (q : List Happening). (x : Happening) → Has q x → AtMost c.args.h x) (sym c.self.view_is) c.requires)))

pub leave-requires-4 : goal.leave-requires-4
leave-requires-4 c =
    let i = c.self.inside in
    low_there i.third i.others.keys c.args.h (low_there i.second (i.third ++ i.others.keys) c.args.h
    (low_there i.first (i.second ++ (i.third ++ i.others.keys)) c.args.h (subst (λ (q : List Happening). (x : Happening) → Has q x → AtMost c.args.h x) (sym c.self.view_is) c.requires)))

pub returns-then-are_empty : goal.returns-then-are_empty
returns-then-are_empty c =
    let i = c.self.inside in
    let a = c.leave.new.self in
    let b = c.leave-2.new.self in
    let behind = i.third ++ i.others.keys in
    subst (λ (q : List Happening). Leaves c.args.h q (a ++ (b ++ behind))) c.self.view_is
    (leaves_both c.args.h i.first a (i.second ++ behind) (b ++ behind) c.leave.ensures
    (leaves_both c.args.h i.second b behind behind c.leave-2.ensures
    (none_leaves c.args.h behind (λ x has. subst (λ (q : List Happening). Has q x) (c.are_empty.ensures c.if-are_empty.true) has))))

pub returns : goal.returns
returns c =
    let i = c.self.inside in
    let a = c.leave.new.self in
    let b = c.leave-2.new.self in
    let d = c.leave-3.new.self in
    let e = c.leave-4.new.waiting.keys in
    subst (λ (q : List Happening). Leaves c.args.h q (a ++ (b ++ (d ++ e)))) c.self.view_is
    (leaves_both c.args.h i.first a (i.second ++ (i.third ++ i.others.keys)) (b ++ (d ++ e)) c.leave.ensures
    (leaves_both c.args.h i.second b (i.third ++ i.others.keys) (d ++ e) c.leave-2.ensures
    (leaves_both c.args.h i.third d i.others.keys e c.leave-3.ensures c.leave-4.ensures)))

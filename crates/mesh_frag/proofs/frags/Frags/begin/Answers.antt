use Rattle.std.proofs.Common.{◌≡◌, ◌∙◌, ◌∷◌, ap, subst, sym}
use Rattle.mesh_model.specs.Fragments.Assembly.{new_assembly, with_part}
use Rattle.mesh_frag.specs.Frags.{FragsStand}
use Rattle.mesh_frag.specs.Kept.{call_of}
use Rattle.mesh_frag.proofs.FragLemmas.{begins_answered, begins_open, begins_whole, left_before}
use Rattle.mesh_frag.proofs.frags.Frags.begin.Goals as goal
use Rattle.mesh_frag.proofs.frags.Frags.begin.Goals.{in-Open+in-Some-1, in-Open+in-None-1, in_default}

pub returns-clause-answered : goal.returns-clause-answered
returns-clause-answered c =
    let place = c.args.piece.place in
    let tail = c.args.piece.tail.now in
    let taken : c.take.new.self ≡ with_part place tail (new_assembly c.args.now) = c.in_ok-told.ensures.ok ∙ ap (with_part place tail) c.new-assembly.ensures in
    λ calls stands in_time.
    begins_answered c.args.self.now calls stands c.args.now in_time c.args.key place tail c.take.new.self c.requires taken c.in_ok-told.told c.in_ok-told.ensures.answered

pub returns-clause-ok : goal.returns-clause-ok
returns-clause-ok c =
    let a = c.args in
    let taken : c.take.new.self ≡ with_part a.piece.place a.piece.tail.now (new_assembly a.now) = c.in_ok-told.ensures.ok ∙ ap (with_part a.piece.place a.piece.tail.now) c.new-assembly.ensures in
    λ calls stands in_time.
    let after = c.take.new.self in
    let left = left_before a.self.now calls stands a.now in_time a.key a.piece.place a.piece.tail.now after c.requires taken c.reserve.new.self.entries c.drop_aged.new.rows.entries (c.reserve.ensures.entries ∙ c.self.view_is) c.drop_aged.ensures.kept in
    elim c.match-told-2.branch [
      | in-Open+in-Some-1 w ↦
          let inserted = rw w.unwrap.ensures at w.insert.ensures in
          subst (λ rows. FragsStand rows (call_of a.now a.key a.piece ∷ calls)) (sym w.self-is)
          (begins_open a.self.now calls stands a.now in_time a.key a.piece.place a.piece.tail.now after c.requires taken c.in_ok-told.told w.in-Open.have c.in_ok-told.ensures.answered w.in-Open.is
          c.drop_aged.new.rows w.insert.new.self.entries left inserted.entries inserted.updates.0 inserted.unique)
      | in-Open+in-None-1 w ↦
          let inserted = rw w.unwrap.ensures at w.insert.ensures in
          subst (λ rows. FragsStand rows (call_of a.now a.key a.piece ∷ calls)) (sym w.self-is)
          (begins_open a.self.now calls stands a.now in_time a.key a.piece.place a.piece.tail.now after c.requires taken c.in_ok-told.told w.in-Open.have c.in_ok-told.ensures.answered w.in-Open.is
          c.drop_aged.new.rows w.insert.new.self.entries left inserted.entries inserted.updates.0 inserted.unique)
      | in_default w ↦
          begins_whole a.self.now calls stands a.now in_time a.key a.piece.place a.piece.tail.now after c.requires taken c.in_ok-told.told w.in_default.field-0 c.in_ok-told.ensures.answered w.in_default.is
          c.match-told-2.self (w.self-is ∙ left)
    ]

use Rattle.std.proofs.Common.{◌≡◌, ◌∙◌, ◌∷◌, Some, ap, rules, subst, sym, true}
use Rattle.std.specs.Map.{lookup, set_value}
use Rattle.std.proofs.lemmas.Map.Steps.{set_value_same}
use Rattle.std.proofs.lemmas.Result.{err_from_is_err_and}
use Rattle.mesh_frag.specs.Frags.{FragsStand, same_assembly}
use Rattle.mesh_frag.specs.Kept.{call_of, is_kept_young, is_young}
use Rattle.mesh_frag.proofs.FragLemmas.{goes_on_answered, goes_on_open, goes_on_whole, left_then}
use Rattle.mesh_frag.proofs.frags.Frags.go_on.Goals as goal
use Rattle.mesh_frag.proofs.frags.Frags.go_on.Goals.{in-Whole+in-Some-1, in-Whole+in-None-1, in_default}

pub returns-in_err-told-clause-err : goal.returns-in_err-told-clause-err
returns-in_err-told-clause-err c =
    let old = c.args.self.now in
    let found : lookup (same_assembly c.args.key) old ≡ Some c.unwrap-assembly.result.now = search rules in
    let written : (c.get_mut.follows.lender c.take.new.self).entries ≡ set_value (same_assembly c.args.key) old c.take.new.self = search rules in
    let error = err_from_is_err_and c.from_residual.result c.from_residual.ensures.1 in
    rw error.1 (written ∙ ap (set_value (same_assembly c.args.key) old) c.in_err-told.ensures.err ∙ set_value_same (same_assembly c.args.key) old c.unwrap-assembly.result.now found)

pub returns-clause-answered : goal.returns-clause-answered
returns-clause-answered c =
    let old = c.args.self.now in
    let before = c.unwrap-assembly.result.now in
    let found : lookup (same_assembly c.args.key) old ≡ Some before = search rules in
    let young : is_young c.args.now before ≡ true = subst (λ kept. is_kept_young c.args.now kept ≡ true) found c.requires in
    λ calls stands in_time.
    goes_on_answered old calls stands c.args.now in_time c.args.key c.args.piece.place c.args.piece.tail.now before c.take.new.self found young c.in_ok-told.ensures.ok c.in_ok-told.told c.in_ok-told.ensures.answered

pub returns-clause-ok : goal.returns-clause-ok
returns-clause-ok c =
    let a = c.args in
    let old = a.self.now in
    let before = c.unwrap-assembly.result.now in
    let found : lookup (same_assembly a.key) old ≡ Some before = search rules in
    let young : is_young a.now before ≡ true = subst (λ kept. is_kept_young a.now kept ≡ true) found c.requires in
    let written : (c.get_mut.follows.lender c.take.new.self).entries ≡ set_value (same_assembly a.key) old c.take.new.self = search rules in
    λ calls stands in_time.
    let after = c.take.new.self in
    let left = left_then old calls stands a.now in_time a.key a.piece.place a.piece.tail.now before after found young c.in_ok-told.ensures.ok (c.get_mut.follows.lender after).entries c.drop_aged.new.rows.entries written c.drop_aged.ensures.kept in
    let ends = goes_on_whole old calls stands a.now in_time a.key a.piece.place a.piece.tail.now before after found young c.in_ok-told.ensures.ok c.in_ok-told.told in
    elim c.match-told.branch [
      | in-Whole+in-Some-1 w ↦
          subst (λ rows. FragsStand rows (call_of a.now a.key a.piece ∷ calls)) (sym w.self-is)
          (ends w.in-Whole.field-0 c.in_ok-told.ensures.answered w.in-Whole.is c.drop_aged.new.rows.entries w.shift_remove.new.self.entries left w.shift_remove.ensures.entries w.shift_remove.ensures.unique)
      | in-Whole+in-None-1 w ↦
          subst (λ rows. FragsStand rows (call_of a.now a.key a.piece ∷ calls)) (sym w.self-is)
          (ends w.in-Whole.field-0 c.in_ok-told.ensures.answered w.in-Whole.is c.drop_aged.new.rows.entries w.shift_remove.new.self.entries left w.shift_remove.ensures.entries w.shift_remove.ensures.unique)
      | in_default w ↦
          goes_on_open old calls stands a.now in_time a.key a.piece.place a.piece.tail.now before after found young c.in_ok-told.ensures.ok c.in_ok-told.told w.in_default.field-0 c.in_ok-told.ensures.answered w.in_default.is
          c.match-told.self (w.self-is ∙ left)
    ]

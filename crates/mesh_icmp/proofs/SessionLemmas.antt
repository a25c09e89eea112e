-- What is kept after the number of a probe ended and after a probe was given.
use Rattle.std.proofs.Common.{◌≡◌, ◌∙◌, sym, ap, subst, ℕ, ◌+◌, ◌%◌, nat_eq, Bool, true, false, cond, List, [], ◌∷◌, ◌++◌, find, Option, Some, None}
use Rattle.mesh_base.specs.declared.address.Mac.{Mac}
use Rattle.mesh_model.specs.declared.probe.OpenProbe.{OpenProbe}
use Rattle.mesh_model.specs.Probes.OpenProbes.{ProbeCall, Probes, answered_probes, leads_on, numbers, probes_by, with_next, with_probe, without_probe}
use Rattle.mesh_icmp.specs.Sessions.{Kept, StandsFor, has_number, next_after, without}
use Rattle.mesh_icmp.proofs.QueueLemmas.{find_given, find_without, none_left}
use Rattle.mesh_icmp.proofs.RankLemmas.{number_is_next}

-- what is kept is what these probes are
pub record Keeps (latest : ℕ) (open_probes : List OpenProbe) (probes : Probes) : Type 0 where
  pub numbered : latest ≡ probes.given % numbers
  pub open_is : (seq : ℕ) → find (has_number seq) open_probes ≡ probes.waiting seq

pub keeps_without : (latest n : ℕ) (xs : List OpenProbe) (probes : Probes) → Keeps latest xs probes → Keeps latest (without n xs) (without_probe n probes)
keeps_without latest n xs probes keeps = record {
  numbered = keeps.numbered;
  open_is = λ seq. find_without seq n xs ∙ ap (cond (nat_eq seq n) None) (keeps.open_is seq);
}

-- the probe that is given after a number
abbrev pub given_probe : ℕ → Mac → Bool → ℕ → ℕ → OpenProbe
given_probe now target trace ttl seq = record { probe = record { target = target; seq = seq; ttl = ttl }; trace = trace; sent = now }

next_is : (latest : ℕ) (probes : Probes) (xs : List OpenProbe) → Keeps latest xs probes → next_after latest ≡ (probes.given + 1) % numbers
next_is latest probes xs keeps = ap next_after keeps.numbered ∙ number_is_next probes.given

-- the open probes once one is given after a number
abbrev pub given_after : ℕ → Mac → Bool → ℕ → ℕ → List OpenProbe → List OpenProbe
given_after now target trace ttl latest xs = without (next_after latest) xs ++ given_probe now target trace ttl (next_after latest) ∷ []

pub keeps_given : (latest now : ℕ) (target : Mac) (trace : Bool) (ttl : ℕ) (xs : List OpenProbe) (probes : Probes) → Keeps latest xs probes
    → Keeps (next_after latest) (given_after now target trace ttl latest xs) (with_probe now target trace ttl probes)
keeps_given latest now target trace ttl xs probes keeps =
    let is = next_is latest probes xs keeps in
    record {
      numbered = is;
      open_is = λ seq.
          find_given seq (given_probe now target trace ttl (next_after latest)) xs
          ∙ ap (λ n. cond (nat_eq seq n) (Some (given_probe now target trace ttl n)) (find (has_number seq) xs)) is
          ∙ ap (cond (nat_eq seq ((probes.given + 1) % numbers)) (Some (given_probe now target trace ttl ((probes.given + 1) % numbers)))) (keeps.open_is seq);
    }

-- ---- an answer to a number
module _ (latest now seq msg : ℕ) (xs : List OpenProbe) (probes : Probes) (keeps : Keeps latest xs probes) where
  abbrev After : ℕ → List OpenProbe → Option OpenProbe → Type 0
  After number ys asked = Keeps number ys (answered_probes now seq msg probes asked)

  -- that no open probe has
  pub answered_none : find (has_number seq) xs ≡ None → After latest (without seq xs) (probes.waiting seq)
  answered_none found =
      subst (After latest (without seq xs)) (sym found ∙ keeps.open_is seq)
      (subst (λ ys. Keeps latest ys probes) (sym (none_left seq xs found)) keeps)

  -- whose session ends
  pub answered_last : (asked : OpenProbe) → find (has_number seq) xs ≡ Some asked → leads_on msg asked ≡ false → After latest (without seq xs) (probes.waiting seq)
  answered_last asked found ends =
      subst (After latest (without seq xs)) (sym found ∙ keeps.open_is seq)
      (subst (λ b. Keeps latest (without seq xs) (cond b (with_next now asked (without_probe seq probes)) (without_probe seq probes))) (sym ends) (keeps_without latest seq xs probes keeps))

  -- whose session goes on
  pub answered_next : (asked : OpenProbe) → find (has_number seq) xs ≡ Some asked → leads_on msg asked ≡ true
      → After (next_after latest) (given_after now asked.probe.target asked.trace (asked.probe.ttl + 1) latest (without seq xs)) (probes.waiting seq)
  answered_next asked found goes =
      let given = keeps_given latest now asked.probe.target asked.trace (asked.probe.ttl + 1) (without seq xs) (without_probe seq probes) (keeps_without latest seq xs probes keeps) in
      let list = given_after now asked.probe.target asked.trace (asked.probe.ttl + 1) latest (without seq xs) in
      subst (After (next_after latest) list) (sym found ∙ keeps.open_is seq)
      (subst (λ b. Keeps (next_after latest) list (cond b (with_next now asked (without_probe seq probes)) (without_probe seq probes))) (sym goes) given)

-- ---- what stands for calls
pub keeps_from : (kept : Kept) (made : List ProbeCall) → StandsFor kept made → Keeps kept.latest kept.probes (probes_by made)
keeps_from kept made stands = record { numbered = stands.numbered; open_is = stands.open_is }

pub stands_from : (kept : Kept) (made : List ProbeCall) (latest : ℕ) (xs : List OpenProbe) → kept.latest ≡ latest → kept.probes ≡ xs → Keeps latest xs (probes_by made) → StandsFor kept made
stands_from kept made latest xs same_number same_probes keeps = record {
  numbered = same_number ∙ keeps.numbered;
  open_is = λ seq. ap (find (has_number seq)) same_probes ∙ keeps.open_is seq;
}

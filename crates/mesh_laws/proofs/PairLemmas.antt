-- A pair is known while what was learned last of it is young.
use Rattle.std.proofs.Common.{◌≡◌, inl, inr, ◌<◌, ◌+◌, ◌-◌, ◌==◌, ◌&&◌, ℕ, Bool, true, false, cond, nat_lt, List, [], ◌∷◌, ◌++◌, find, Option, Some, None, option_and_then, refl, ap, subst, ◌∙◌, arith}
use Rattle.std.proofs.lemmas.Bool.{eqb-true, eq-eqb}
use Rattle.std.proofs.lemmas.Bool.Decides.{nat_tests}
use Rattle.mesh_base.specs.declared.client.Vid.{Vid}
use Rattle.mesh_model.specs.Net.Next.{Has}
use Rattle.mesh_model.specs.Services.ArpTable.{Learned, if_known, is_pair, known_pair, pair_age, same_pair}
use Rattle.mesh_laws.specs.AddressLaws.{IsLearnedLast, IsOfPair, KnownWhileYoung}
use Rattle.mesh_laws.proofs.Schedule.Members.{one_some}

-- ---- pairs
pub pair_is : (a_ip ip : ℕ) (a_vid vid : Vid) → same_pair a_ip a_vid ip vid ≡ true → (a_ip ≡ ip) × (a_vid ≡ vid)
pair_is a_ip ip a_vid vid is = go (a_ip == ip) (a_vid.0 == vid.0) refl refl is
  where
    go : (i v : Bool) → (a_ip == ip) ≡ i → (a_vid.0 == vid.0) ≡ v → (i && v) ≡ true → (a_ip ≡ ip) × (a_vid ≡ vid)
    go true true same_ip same_vid t = (eqb-true a_ip ip same_ip, let p = eqb-true a_vid.0 vid.0 same_vid in λ i. record { 0 = p i })
    go true false same_ip same_vid t = cc
    go false v same_ip same_vid t = cc

pub pair_itself : (ip : ℕ) (vid : Vid) → same_pair ip vid ip vid ≡ true
pair_itself ip vid = ap (λ b. b && (vid.0 == vid.0)) (eq-eqb ip ip refl) ∙ eq-eqb vid.0 vid.0 refl

is_of : (ip : ℕ) (vid : Vid) (one : Learned) → IsOfPair ip vid one → is_pair ip vid one ≡ true
is_of ip vid one of = subst (λ i. same_pair one.ip one.vid i vid ≡ true) of.0 (subst (λ v. same_pair one.ip one.vid one.ip v ≡ true) of.1 (pair_itself one.ip one.vid))

-- ---- what is known
found_last : (ip : ℕ) (vid : Vid) (learned : List Learned) (last : Learned) → find (is_pair ip vid) learned ≡ Some last → IsLearnedLast learned ip vid last
found_last ip vid [] last is = cc
found_last ip vid (first ∷ rest) last is = go (is_pair ip vid first) refl is (found_last ip vid rest last)
  where
    go : (b : Bool) → is_pair ip vid first ≡ b → cond b (Some first) (find (is_pair ip vid) rest) ≡ Some last → (find (is_pair ip vid) rest ≡ Some last → IsLearnedLast rest ip vid last) → IsLearnedLast (first ∷ rest) ip vid last
    go true t e more =
        let same = one_some first last e in
        record { newer = []; older = rest; learned_is = ap (λ x. x ∷ rest) same; of_pair = subst (IsOfPair ip vid) same (pair_is first.ip ip first.vid vid t); none_newer = λ one none of. none }
    go false t e more =
        let l = more e in
        record {
          newer = first ∷ l.newer;
          older = l.older;
          learned_is = ap (λ xs. first ∷ xs) l.learned_is;
          of_pair = l.of_pair;
          none_newer = λ one has of. newer one has of l.none_newer t;
        }
      where
        newer : (one : Learned) → Has (first ∷ (more e).newer) one → IsOfPair ip vid one → ((k : Learned) → Has (more e).newer k → IsOfPair ip vid k → ⊥) → is_pair ip vid first ≡ false → ⊥
        newer one (inl same) of none t = let it : is_pair ip vid first ≡ true = is_of ip vid first (subst (IsOfPair ip vid) same of) in cc
        newer one (inr has) of none t = none one has of

last_found : (ip : ℕ) (vid : Vid) (newer older : List Learned) (last : Learned) → IsOfPair ip vid last → ((one : Learned) → Has newer one → IsOfPair ip vid one → ⊥) → find (is_pair ip vid) (newer ++ last ∷ older) ≡ Some last
last_found ip vid [] older last of none = ap (λ b. cond b (Some last) (find (is_pair ip vid) older)) (is_of ip vid last of)
last_found ip vid (first ∷ rest) older last of none = go (is_pair ip vid first) refl (last_found ip vid rest older last of (λ one has. none one (inr has)))
  where
    go : (b : Bool) → is_pair ip vid first ≡ b → find (is_pair ip vid) (rest ++ last ∷ older) ≡ Some last → cond b (Some first) (find (is_pair ip vid) (rest ++ last ∷ older)) ≡ Some last
    go true t more = absurd (none first (inl refl) (pair_is first.ip ip first.vid vid t))
    go false t more = more

young_known : (now : ℕ) (one last : Learned) → if_known now one ≡ Some last → (one ≡ last) × (now < one.moment + pair_age)
young_known now one last is = go (nat_lt (now - one.moment) pair_age) refl is
  where
    go : (b : Bool) → nat_lt (now - one.moment) pair_age ≡ b → cond b (Some one) None ≡ Some last → (one ≡ last) × (now < one.moment + pair_age)
    go true young e = (one_some one last e, grind (arith, nat_tests, young))
    go false old e = cc

known_young : (now : ℕ) (one : Learned) → now < one.moment + pair_age → if_known now one ≡ Some one
known_young now one young = let t : nat_lt (now - one.moment) pair_age ≡ true = grind (arith, nat_tests, young) in ap (λ b. cond b (Some one) None) t

pub known_while_young : KnownWhileYoung
known_while_young learned now ip vid last = ((λ is. known (find (is_pair ip vid) learned) refl is), (λ l. back l.0 l.1))
  where
    known : (o : Option Learned) → find (is_pair ip vid) learned ≡ o → option_and_then (if_known now) o ≡ Some last → IsLearnedLast learned ip vid last × (now < last.moment + pair_age)
    known None found is = cc
    known (Some one) found is =
        let p = young_known now one last is in
        (found_last ip vid learned last (found ∙ ap Some p.0), subst (λ (k : Learned). now < k.moment + pair_age) p.0 p.1)

    back : IsLearnedLast learned ip vid last → now < last.moment + pair_age → known_pair learned now ip vid ≡ Some last
    back l young =
        ap (λ ls. option_and_then (if_known now) (find (is_pair ip vid) ls)) l.learned_is
        ∙ ap (option_and_then (if_known now)) (last_found ip vid l.newer l.older last l.of_pair l.none_newer)
        ∙ known_young now last young

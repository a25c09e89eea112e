-- What tables that stand for a log answer.
use Rattle.std.proofs.Common.{◌≡◌, ⊎_elim, ℕ, suc, ◌%◌, ◌==◌, ◌≤◌, max, nat_lt, nat_le, Bool, true, false, cond, not, ◌&&◌, List, [], ◌∷◌, length, Option, Some, None, arith, refl, sym, ap, ◌∙◌, subst}
use Rattle.std.specs.List.Sorted.{IsStrictlySortedBy}
use Rattle.std.specs.Map.{keys_of, lookup}
use Rattle.std.proofs.lemmas.Bool.{cases_Bool, and_parts, leb-true, not-true}
use Rattle.mesh_base.specs.declared.address.Mac.{Mac}
use Rattle.mesh_model.specs.Routes.Addresses.{mac_order, same_mac}
use Rattle.mesh_model.specs.Routes.AlgorithmIv.{iv_life}
use Rattle.mesh_model.specs.Routes.Hearings.{hearing, heard, heard_with}
use Rattle.mesh_model.specs.Routes.Life.{HeardOgm, of, life, newest, numbers_from}
use Rattle.mesh_model.specs.Routes.Numbers.{greatest, seen_among, window, window_length}
use Rattle.mesh_model.specs.Routes.Ogm.{Ogm, ogm_of_head, is_echo, passes, has_flag}
use Rattle.mesh_model.specs.Packets.Numbers.{directlink_flag}
use Rattle.mesh_model.specs.Routes.Quality.{average_quality, own_ogms, echoes_with, echoes_from, echo_quality, receive_quality, received_in}
use Rattle.mesh_model.specs.Routes.RouteLog.{RouteLog, OwnTick, HeadCame}
use Rattle.mesh_laws.proofs.WindowLemmas.{among-window, greatest-window}
use Rattle.mesh_algo.proofs.LifeLemmas.{numbers-le, of_other}
use Rattle.mesh_laws.proofs.MacLemmas.{same_exact, same_self}
use Rattle.mesh_algo.specs.LifeRows.{latest, life_row}
use Rattle.mesh_algo.specs.Pairs.{pair_order, same_pair}
use Rattle.mesh_algo.specs.Walk.{best_in, walk}
use Rattle.mesh_algo.proofs.LifeRows.{life_is_latest, newest_of_row, no_life, none_among}
use Rattle.mesh_iv.specs.declared.path.Path.{Path}
use Rattle.mesh_algo.specs.declared.life.Life.{Life}
use Rattle.mesh_algo.specs.declared.pair.Pair.{Pair}
use Rattle.mesh_iv.specs.Answers.{count_of}
use Rattle.mesh_iv.specs.Rows.{path_score, row_of, path_row, echo_row}
use Rattle.mesh_iv.specs.Tables.{StandsFor, Tables, path_at}
use Rattle.mesh_algo.specs.declared.best.Best.{Best}
use Rattle.mesh_iv.proofs.BestWalk.{walk_finds}

-- ---- own numbers
own_le : (b : Bool) (n m : ℕ) → m ≤ n → m ≤ cond b (suc n) n
own_le true n m le = omega arith
own_le false n m le = le

echo_le : (me k : Mac) (last : ℕ) (from : Mac) (m : Option Ogm) (echoes : List ℕ) → greatest echoes ≤ last → greatest (echoes_with me k last from m echoes) ≤ last
echo_le me k last from None echoes le = le
echo_le me k last from (Some m) echoes le =
    elim (is_echo me last m && same_mac from k) as (λ b. (is_echo me last m && same_mac from k) ≡ b → greatest (cond b (m.seq ∷ echoes) echoes) ≤ last) [
      | true ↦ λ t.
          let echo = and_parts (is_echo me last m) (same_mac from k) t in
          let direct = and_parts (same_mac m.orig me) (has_flag directlink_flag m.flags && (nat_lt 0 m.seq && nat_le m.seq last)) echo.0 in
          let within = and_parts (has_flag directlink_flag m.flags) (nat_lt 0 m.seq && nat_le m.seq last) direct.1 in
          let last_one = and_parts (nat_lt 0 m.seq) (nat_le m.seq last) within.1 in
          let seq = leb-true m.seq last last_one.1 in
          omega (arith, seq, le)
      | false ↦ λ t. le
    ] refl

-- an echo is of a number that was sent
pub echoes-le : (me k : Mac) (log : RouteLog) → greatest (echoes_from me k log) ≤ own_ogms log
echoes-le me k [] = omega arith
echoes-le me k (OwnTick moment index ∷ older) = own_le (index % 2 == 0) (own_ogms older) _ (echoes-le me k older)
echoes-le me k (HeadCame moment from throughput head ∷ older) = echo_le me k (own_ogms older) from (ogm_of_head head) (echoes_from me k older) (echoes-le me k older)

-- ---- no own OGM is heard
not_own_with : (me : Mac) (moment : ℕ) (from : Mac) (m : Option Ogm) (older : List HeardOgm) (echo : ℕ) → of me older ≡ [] → of me (heard_with me moment from m older echo) ≡ []
not_own_with me moment from None older echo e = e
not_own_with me moment from (Some m) older echo e =
    elim (passes me m) as (λ b. passes me m ≡ b → of me (cond b (hearing moment from m older echo ∷ older) older) ≡ []) [
      | true ↦ λ t. of_other me (hearing moment from m older echo) older (not-true (same_mac m.orig me) (and_parts (not (same_mac m.orig me)) _ t).0) ∙ e
      | false ↦ λ t. e
    ] refl

pub not_own : (me : Mac) (log : RouteLog) → of me (heard me log) ≡ []
not_own me [] = refl
not_own me (OwnTick moment index ∷ older) = not_own me older
not_own me (HeadCame moment from throughput head ∷ older) = not_own_with me moment from (ogm_of_head head) (heard me older) (echo_quality me from older) (not_own me older)

-- ---- a life by its row
-- an originator that lives is another node
pub other_lives : (me : Mac) (log : RouteLog) (moment : ℕ) (o : Mac) (row : Life) → life_row (iv_life me log moment o) ≡ Some row → same_mac o me ≡ false
other_lives me log moment o row e =
    ⊎_elim (λ t.
    let none : life_row (iv_life me log moment o) ≡ None = ap (λ x. life_row (life moment (of x (heard me log)))) (same_exact o me t) ∙ ap (λ l. life_row (life moment l)) (not_own me log) in cc)
    (λ n. n) (cases_Bool (same_mac o me))

-- ---- counts
pub count_row : (top : ℕ) (numbers values : List ℕ) → greatest numbers ≤ top → count_of top (row_of numbers values) ≡ length (seen_among top window_length numbers)
count_row top [] values le = sym (ap (λ l. length l) (none_among top 64))
count_row top (n ∷ numbers) values le =
    ap (λ g. length (seen_among (max top g) 64 (window (n ∷ numbers)))) (greatest-window (n ∷ numbers))
    ∙ (let above : max top (greatest (n ∷ numbers)) ≡ top = omega (arith, le) in ap (λ t. length (seen_among t 64 (window (n ∷ numbers)))) above)
    ∙ ap (λ l. length l) (among-window top (n ∷ numbers) le)

pub receive_none : (me : Mac) (log : RouteLog) (moment : ℕ) (k : Mac) → life_row (iv_life me log moment k) ≡ None → 0 ≡ receive_quality moment k (heard me log)
receive_none me log moment k e = sym (ap (λ l. received_in k l) (no_life _ e) ∙ ap (λ l. length l) (none_among 0 64))

pub receive_some : (me : Mac) (log : RouteLog) (moment : ℕ) (k : Mac) (row : Life) → life_row (iv_life me log moment k) ≡ Some row
    → count_of row.newest (path_at me (heard me log) (λ j. echoes_from me j log) (record { orig = k; from = k })) ≡ receive_quality moment k (heard me log)
receive_some me log moment k row e =
    let alive = iv_life me log moment k in
    let last = life_is_latest moment (of k (heard me log)) row e in
    ap (λ n. count_of n (path_at me (heard me log) (λ j. echoes_from me j log) (record { orig = k; from = k }))) (newest_of_row alive row e)
    ∙ ap (λ b. count_of (newest alive) (cond b (echo_row (echoes_from me k log)) (path_row k (latest (of k (heard me log)))))) (other_lives me log moment k row e)
    ∙ ap (λ l. count_of (newest alive) (path_row k l)) (sym last)
    ∙ count_row (newest alive) (numbers_from k alive) _ (numbers-le k alive)

-- the row of an echo
pub echo_at : (me k : Mac) (hearings : List HeardOgm) (echoes : Mac → List ℕ) → path_at me hearings echoes (record { orig = me; from = k }) ≡ echo_row (echoes k)
echo_at me k hearings echoes = ap (λ b. cond b (echo_row (echoes k)) (path_row k (latest (of me hearings)))) (same_self me)

pub echo_some : (me : Mac) (log : RouteLog) (k : Mac) → count_of (own_ogms log) (echo_row (echoes_from me k log)) ≡ echo_quality me k log
echo_some me log k = count_row (own_ogms log) (echoes_from me k log) _ (echoes-le me k log)

-- ---- routes
pub best_some : (me : Mac) (tables : Tables) (log : RouteLog) (moment : ℕ) (o : Mac) (row : Life) → StandsFor me tables log → life_row (iv_life me log moment o) ≡ Some row
    → walk (path_score row.newest) o None tables.paths ≡ best_in (average_quality (iv_life me log moment o)) (iv_life me log moment o)
best_some me tables log moment o row stands e =
    let alive = iv_life me log moment o in
    let last = life_is_latest moment (of o (heard me log)) row e in
    ap (λ n. walk (path_score n) o None tables.paths) (newest_of_row alive row e) ∙ ap (λ l. walk (path_score (newest l)) o None tables.paths) last
    ∙ walk_finds me (heard me log) (λ k. echoes_from me k log) tables.paths o stands.paths_stand (other_lives me log moment o row e)
    ∙ ap (λ l. best_in (average_quality l) l) (sym last)

-- ---- the first tables
nothing_at : (me : Mac) (pair : Pair) → path_at me [] (λ k. []) pair ≡ None
nothing_at me pair = elim (same_mac pair.orig me) as (λ b. cond b (echo_row []) (path_row pair.from []) ≡ None) [ true ↦ refl | false ↦ refl ]

pub new_stands : (me : Mac) (lives : List (Mac × Life)) (paths : List (Pair × Path)) (bests : List (Mac × Option Best)) → lives ≡ [] → paths ≡ [] → bests ≡ [] → StandsFor me (record { me = me; sent = 0; lives = lives; paths = paths; bests = bests }) []
unfolding IsStrictlySortedBy
new_stands me lives paths bests none empty no_bests = record {
  me_is = refl;
  sent_is = refl;
  lives_stand = record {
    are = λ o. ap (λ rows. lookup (same_mac o) rows) none;
    rise = subst (λ rows. IsStrictlySortedBy mac_order (keys_of rows)) (sym none) tt;
  };
  paths_stand = record {
    are = λ pair. ap (λ rows. lookup (same_pair pair) rows) empty ∙ sym (nothing_at me pair);
    rise = subst (λ rows. IsStrictlySortedBy pair_order (keys_of rows)) (sym empty) tt;
  };
  bests_stand = λ o. ap (λ rows. lookup (same_mac o) rows) no_bests;
}

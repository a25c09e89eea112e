-- Where hearings and echoes come from: each is of an OGM in the log.
use Rattle.std.proofs.Common.{◌≡◌, ⊎_elim, ℕ, Bool, true, false, cond, ◌&&◌, ◌||◌, List, [], ◌∷◌, is_some, IsSome, Option, Some, None, refl, sym, ap, ◌∙◌}
use Rattle.std.proofs.lemmas.Bool.{cases_Bool, and_parts, or_cases, false≢true}
use Rattle.mesh_base.specs.declared.address.Mac.{Mac}
use Rattle.mesh_model.specs.Routes.Addresses.{same_mac}
use Rattle.mesh_model.specs.Routes.Hearings.{hearing, heard, heard_with}
use Rattle.mesh_model.specs.Routes.Life.{HeardOgm, of, is_live}
use Rattle.mesh_model.specs.Routes.Ogm.{Ogm, ogm_of_head, is_echo, passes}
use Rattle.mesh_model.specs.Routes.Quality.{echo_quality, echoes_with, echoes_from, own_ogms}
use Rattle.mesh_model.specs.Routes.RouteLog.{RouteLog, OwnTick, HeadCame}
use Rattle.mesh_algo.proofs.CameFrom.{both, came_from, has_any, latest_any, numbers_any, of_any, or_left, or_right}
use Rattle.mesh_algo.proofs.LifeLemmas.{of_other}
use Rattle.mesh_laws.proofs.MacLemmas.{same_equiv, same_exact}
use Rattle.mesh_algo.specs.declared.pair.Pair.{Pair}
use Rattle.mesh_algo.specs.LifeRows.{latest}
use Rattle.mesh_algo.proofs.LifeRows.{some_row}
use Rattle.mesh_iv.specs.KeyLaw.{is_of, names_orig, names_pair, HasKeysOfOgms}
use Rattle.mesh_iv.specs.Rows.{row_of, path_row, echo_row}
use Rattle.mesh_iv.specs.Tables.{StandsFor, Tables, path_at}

-- ---- originators
heard_step : (me orig : Mac) (moment : ℕ) (from : Mac) (m : Option Ogm) (older : List HeardOgm) (echo : ℕ) (names : Bool)
    → (is_live (of orig older) ≡ true → names ≡ true) → is_live (of orig (heard_with me moment from m older echo)) ≡ true → (is_of orig m || names) ≡ true
heard_step me orig moment from None older echo names h live = h live
heard_step me orig moment from (Some m) older echo names h live =
    ⊎_elim (λ t. or_left (same_mac orig m.orig) names t)
    (λ f.
    let lived : is_live (of orig older) ≡ true = elim (passes me m) as (λ b. is_live (of orig (cond b (hearing moment from m older echo ∷ older) older)) ≡ true → is_live (of orig older) ≡ true) [
      | true ↦ λ l. ap (λ x. is_live x) (sym (of_other orig (hearing moment from m older echo) older (same_equiv.symm m.orig orig ∙ f))) ∙ l
      | false ↦ λ l. l
    ] live in
    or_right (same_mac orig m.orig) names (h lived))
    (cases_Bool (same_mac orig m.orig))

heard_named : (me orig : Mac) (log : RouteLog) → is_live (of orig (heard me log)) ≡ true → names_orig orig log ≡ true
heard_named me orig [] live = absurd (false≢true live)
heard_named me orig (OwnTick moment index ∷ older) live = heard_named me orig older live
heard_named me orig (HeadCame moment from throughput head ∷ older) live =
    heard_step me orig moment from (ogm_of_head head) (heard me older) (echo_quality me from older) (names_orig orig older) (heard_named me orig older) live

-- ---- neighbours

row_has : (numbers values : List ℕ) → IsSome (row_of numbers values) → has_any numbers ≡ true
row_has [] values some = absurd (false≢true some)
row_has (n ∷ numbers) values some = refl

came_step : (me : Mac) (pair : Pair) (moment : ℕ) (from : Mac) (m : Option Ogm) (older : List HeardOgm) (echo : ℕ) (names : Bool)
    → (came_from pair.orig pair.from older ≡ true → names ≡ true) → came_from pair.orig pair.from (heard_with me moment from m older echo) ≡ true
    → ((is_of pair.orig m && same_mac pair.from from) || names) ≡ true
came_step me pair moment from None older echo names h came = h came
came_step me pair moment from (Some m) older echo names h came =
    elim (passes me m) as (λ b. came_from pair.orig pair.from (cond b (hearing moment from m older echo ∷ older) older) ≡ true → ((same_mac pair.orig m.orig && same_mac pair.from from) || names) ≡ true) [
      | true ↦ λ x. ⊎_elim (λ t. or_left (same_mac pair.orig m.orig && same_mac pair.from from) names t) (λ r. or_right (same_mac pair.orig m.orig && same_mac pair.from from) names (h r))
          (or_cases (same_mac pair.orig m.orig && same_mac pair.from from) (came_from pair.orig pair.from older) x)
      | false ↦ λ x. or_right (same_mac pair.orig m.orig && same_mac pair.from from) names (h x)
    ] came

came_named : (me : Mac) (pair : Pair) (log : RouteLog) → came_from pair.orig pair.from (heard me log) ≡ true → names_pair pair log ≡ true
came_named me pair [] came = absurd (false≢true came)
came_named me pair (OwnTick moment index ∷ older) came = came_named me pair older came
came_named me pair (HeadCame moment from throughput head ∷ older) came =
    came_step me pair moment from (ogm_of_head head) (heard me older) (echo_quality me from older) (names_pair pair older) (came_named me pair older) came

-- ---- echoes
echo_step : (me : Mac) (pair : Pair) (last : ℕ) (from : Mac) (m : Option Ogm) (echoes : List ℕ) (names : Bool) → same_mac pair.orig me ≡ true
    → (has_any echoes ≡ true → names ≡ true) → has_any (echoes_with me pair.from last from m echoes) ≡ true → ((is_of pair.orig m && same_mac pair.from from) || names) ≡ true
echo_step me pair last from None echoes names own h any = h any
echo_step me pair last from (Some m) echoes names own h any =
    elim (is_echo me last m && same_mac from pair.from) as (λ b. (is_echo me last m && same_mac from pair.from) ≡ b → has_any (cond b (m.seq ∷ echoes) echoes) ≡ true → ((same_mac pair.orig m.orig && same_mac pair.from from) || names) ≡ true) [
      | true ↦ λ t x.
          let parts = and_parts (is_echo me last m) (same_mac from pair.from) t in
          let of_me = (and_parts (same_mac m.orig me) _ parts.0).0 in
          or_left (same_mac pair.orig m.orig && same_mac pair.from from) names (both _ _
          (ap (λ o. same_mac o m.orig) (same_exact pair.orig me own) ∙ same_equiv.symm me m.orig ∙ of_me) (same_equiv.symm pair.from from ∙ parts.1))
      | false ↦ λ t x. or_right (same_mac pair.orig m.orig && same_mac pair.from from) names (h x)
    ] refl any

echo_named : (me : Mac) (pair : Pair) (log : RouteLog) → same_mac pair.orig me ≡ true → has_any (echoes_from me pair.from log) ≡ true → names_pair pair log ≡ true
echo_named me pair [] own any = absurd (false≢true any)
echo_named me pair (OwnTick moment index ∷ older) own any = echo_named me pair older own any
echo_named me pair (HeadCame moment from throughput head ∷ older) own any =
    echo_step me pair (own_ogms older) from (ogm_of_head head) (echoes_from me pair.from older) (names_pair pair older) own (echo_named me pair older own) any

-- ---- the keys
path_named : (me : Mac) (log : RouteLog) (pair : Pair) → IsSome (path_at me (heard me log) (λ k. echoes_from me k log) pair) → names_pair pair log ≡ true
path_named me log pair some =
    elim (same_mac pair.orig me) as (λ b. same_mac pair.orig me ≡ b → IsSome (cond b (echo_row (echoes_from me pair.from log)) (path_row pair.from (latest (of pair.orig (heard me log))))) → names_pair pair log ≡ true) [
      | true ↦ λ t x. echo_named me pair log t (row_has (echoes_from me pair.from log) _ x)
      | false ↦ λ t x. came_named me pair log (of_any pair.orig pair.from (heard me log) (latest_any pair.from (of pair.orig (heard me log)) (numbers_any pair.from (latest (of pair.orig (heard me log))) (row_has _ _ x))))
    ] refl some

-- each key is of an OGM in the log
pub keys_named : (me : Mac) (tables : Tables) (log : RouteLog) → StandsFor me tables log → HasKeysOfOgms tables log
keys_named me tables log stands = record {
  lives = λ orig some. heard_named me orig log (sym (some_row (of orig (heard me log))) ∙ ap (λ r. is_some r) (sym (stands.lives_stand.are orig)) ∙ some);
  paths = λ pair some. path_named me log pair (ap (λ r. is_some r) (sym (stands.paths_stand.are pair)) ∙ some);
}

-- The line of a route as it is read: `route T NODE ORIG NEXT`. Behind `route` stand exactly four
-- words: a number up to 1,099,511,627,776, two addresses, and an address or `-`, which says that
-- there is no route. A line whose first word is another is passed over, whatever it holds. The main
-- word is `route_of_line`.
use Rattle.std.specs.Prelude.{ℕ, List, [], ◌∷◌, codes, bytes_eq, Option, None, Some, option_and_then, option_map, if◌then◌else◌}
use Rattle.std.specs.Option.{option_map_or}
use Rattle.mesh_base.specs.Address.{mac_of_text}
use Rattle.mesh_base.specs.declared.address.Mac.{Mac}
use Rattle.mesh_model.specs.declared.route_line.RouteLine.{RouteLine}
use Rattle.mesh_model.specs.declared.route_line.RouteReading.{RouteReading}
use Rattle.mesh_model.specs.declared.route_line.RouteReading.TheVariants.{Other, Route, Bad}
use Rattle.mesh_model.specs.Scenario.LinkOptions.{number_within}
use Rattle.mesh_model.specs.Scenario.NetForms.{time_limit}
use Rattle.mesh_model.specs.Scenario.Terms.{number_of}
use Rattle.mesh_model.specs.Scenario.Words.{Word, line_words}

-- the moment that a word spells
abbrev pub moment_of : List ℕ → Option ℕ
moment_of word = option_and_then (number_within 0 time_limit) (number_of word)

-- the next node that a word names, which may be none
abbrev pub next_named : List ℕ → Option (Option Mac)
next_named word =
    if bytes_eq word (codes "-") then Some None
    else option_map (λ next. Some next) (mac_of_text word)

-- the next word as a part of a route, and what follows it
abbrev pub a_part : {A : Type 0}
    → (List ℕ → Option A) → (A → List Word → Option RouteLine) → List Word → Option RouteLine
a_part part next [] = None
a_part part next (first ∷ rest) = option_and_then (λ value. next value rest) (part first.word)

-- no more words
abbrev pub the_whole : RouteLine → List Word → Option RouteLine
the_whole line [] = Some line
the_whole line (extra ∷ rest) = None

-- the route of the words behind `route`
abbrev pub route_of_words : List Word → Option RouteLine
route_of_words = a_part moment_of (λ moment. a_part mac_of_text (λ node. a_part mac_of_text (λ orig.
    a_part next_named (λ next.
    the_whole (record { moment = moment; node = node; orig = orig; next = next })))))

-- what the words of a line say
abbrev pub reading_of_words : List Word → RouteReading
reading_of_words [] = Other
reading_of_words (first ∷ rest) =
    if bytes_eq first.word (codes "route")
    then option_map_or (λ line. Route line) (route_of_words rest) Bad else Other

-- what a line says
abbrev pub route_of_line : List ℕ → RouteReading
route_of_line line = reading_of_words (line_words line)

-- Lines of worked scenarios with gateways and groups. The main words are `pair_under_v` and
-- `two_gateways_under_v`.
use Rattle.std.specs.Prelude.{ℕ, List, [], ◌∷◌, ◌++◌, codes}

-- two nodes with links of equal throughput under algorithm V
abbrev pub pair_under_v : List (List ℕ)
pair_under_v =
    codes "algo v" ∷ codes "node A 02:00:00:00:00:0a" ∷ codes "node B 02:00:00:00:00:0b"
    ∷ codes "link A B tp=100" ∷ codes "link B A tp=100" ∷ []

-- a client between two gateways under algorithm V, with the throughput of its link to the first;
-- that to the second is 255. The second is a gateway once the first is chosen
abbrev pub two_gateways_under_v : List ℕ → List (List ℕ)
two_gateways_under_v first =
    codes "algo v" ∷ codes "node A 02:00:00:00:00:0a" ∷ codes "node B 02:00:00:00:00:0b"
    ∷ codes "node C 02:00:00:00:00:0c" ∷ (codes "link A B tp=" ++ first) ∷ codes "link B A"
    ∷ codes "link A C tp=255" ∷ codes "link C A" ∷ codes "set B gw server 10 1"
    ∷ codes "set A gw client late 20" ∷ codes "run 2000" ∷ codes "set C gw server 20 2" ∷ []

-- Lines of worked scenarios under algorithm V, and the lines of frames that they print.
use Rattle.std.specs.Prelude.{ℕ, List, [], ◌∷◌, ◌++◌, codes}

-- the lines of two nodes with a link each way, of throughputs 100 and 50
abbrev pub duo_under_v : List (List ℕ)
duo_under_v =
    codes "algo v" ∷ codes "node A 02:00:00:00:00:0a" ∷ codes "node B 02:00:00:00:00:0b"
    ∷ codes "link A B tp=100" ∷ codes "link B A tp=50" ∷ []

-- the lines of four nodes in a chain, its links of throughputs 50, 100 and 20 each way
abbrev pub chain_under_v : List (List ℕ)
chain_under_v =
    codes "algo v" ∷ codes "node A 02:00:00:00:00:0a" ∷ codes "node B 02:00:00:00:00:0b"
    ∷ codes "node C 02:00:00:00:00:0c" ∷ codes "node D 02:00:00:00:00:0d"
    ∷ codes "link A B tp=50" ∷ codes "link B A tp=50" ∷ codes "link B C tp=100"
    ∷ codes "link C B tp=100" ∷ codes "link C D tp=20" ∷ codes "link D C tp=20" ∷ []

-- the line of a node's ELP: `fN T A>B`, its number and the last digit of the node's address
abbrev pub elp_line : List ℕ → List ℕ → List ℕ → List ℕ
elp_line sent number digit =
    sent ++ codes " elp 030f02000000000" ++ digit ++ codes "0000000" ++ number ++ codes "000001f4"

-- the line of a node's originator message: `fN T A>B`, its ttl, its number, the last digit of the
-- node's address and the throughput that it tells
abbrev pub throughput_line : List ℕ → List ℕ → List ℕ → List ℕ → List ℕ → List ℕ
throughput_line sent ttl number digit throughput =
    sent ++ codes " ogm2 040f" ++ ttl ++ codes "000000000" ++ number ++ codes "02000000000" ++ digit
    ++ codes "000c" ++ throughput ++ codes "020100000401000401000000"

-- the line of an originator whose number 1 was heard: the last digit of its address, its age, the
-- last digit of the next node's address, and the metric
abbrev pub known_line : List ℕ → List ℕ → List ℕ → List ℕ → List ℕ
known_line digit seen next metric =
    codes "o 02:00:00:00:00:0" ++ digit ++ codes " seq=1 seen=" ++ seen
    ++ codes " next=02:00:00:00:00:0" ++ next ++ codes " metric=" ++ metric

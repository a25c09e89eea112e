-- How far numbers stand behind the oldest one that can be open, and how that changes with the next number.
use Rattle.std.proofs.Common.{◌≡◌, ℕ, ◌+◌, ◌%◌, ◌<◌, nat_eq, nat_lt, false, cond, arith}
use Rattle.std.proofs.lemmas.Bool.Decides.{nat_tests}
use Rattle.mesh_icmp.specs.Sessions.{next_after, number_rank}

-- numbers of one rank are one
pub same_rank : (latest s t : ℕ) → latest < 65536 → s < 65536 → t < 65536 → number_rank latest s ≡ number_rank latest t → s ≡ t
same_rank latest s t l hs ht e = grind (arith, nat_tests)

next_cases : (latest : ℕ) → latest < 65536 → next_after latest ≡ cond (nat_lt latest 65535) (latest + 1) 0
next_cases latest l = grind (arith, nat_tests)

pub next_fits : (latest : ℕ) → latest < 65536 → next_after latest < 65536
next_fits latest l = grind (arith, nat_tests)

-- the next number becomes the last one
pub rank_of_next : (latest : ℕ) → latest < 65536 → number_rank (next_after latest) (next_after latest) ≡ 65535
rank_of_next latest l = grind (arith, nat_tests)

-- each other number comes nearer to the oldest
pub rank_after : (latest s : ℕ) → latest < 65536 → s < 65536 → nat_eq (next_after latest) s ≡ false → number_rank (next_after latest) s + 1 ≡ number_rank latest s
rank_after latest s l h apart = grind (arith, nat_tests)

pub rank_fits : (latest s : ℕ) → latest < 65536 → s < 65536 → number_rank latest s < 65536
rank_fits latest s l h = grind (arith, nat_tests)

-- the number after so many
pub number_is_next : (given : ℕ) → next_after (given % 65536) ≡ (given + 1) % 65536
number_is_next given = grind (arith, nat_tests)

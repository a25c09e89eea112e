-- What the answers rest on.
mod WordLemmas

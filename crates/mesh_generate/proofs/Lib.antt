-- What the answers rest on.
mod LineLemmas

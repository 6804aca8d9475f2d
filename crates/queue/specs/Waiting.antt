use Rattle.std.specs.Prelude.{ℕ, List, ◌++◌, take, drop}

-- the entries that wait in a ring of slots, the longest waiting first: as many as len says, from slot head on, and
-- past the last slot from the first one on
abbrev pub waiting : {X : Type 0} → List X → ℕ → ℕ → List X
waiting slots head len = take len (drop head slots ++ take head slots)

-- A document in chunks: a chunk is seen as its list of runs, and the runs of a document are those of all its chunks.
use Rattle.std.specs.Prelude.{◌≤◌, ◌<◌, List, [], ◌∷◌, ◌++◌, length}
use Rattle.delta.specs.Element.{Element}
use Rattle.document.specs.Runs.{units_of_runs, AreRuns}

-- the runs of all chunks
abbrev pub runs_of_chunks : List (List (List Element)) → List (List Element)
runs_of_chunks [] = []
runs_of_chunks (c ∷ cs) = c ++ runs_of_chunks cs

-- the units of all chunks
abbrev pub units_of_chunks : List (List (List Element)) → List Element
units_of_chunks cs = units_of_runs (runs_of_chunks cs)

-- a chunk has 1 to 128 runs
abbrev pub IsChunk : List (List Element) → Type 0
IsChunk c = (0 < length c) × (length c ≤ 128)

abbrev pub AreSized : List (List (List Element)) → Type 0
AreSized [] = Unit {0}
AreSized (c ∷ cs) = IsChunk c × AreSized cs

-- chunks, of whose runs no two neighbours are texts of equal attributes, across chunks too
abbrev pub AreChunks : List (List (List Element)) → Type 0
AreChunks cs = AreSized cs × AreRuns (runs_of_chunks cs)

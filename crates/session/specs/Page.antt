-- What a page holds on the way to an output.
use Rattle.std.specs.Prelude.{◌≡◌, ℕ, Bool, true, false, List, ◌++◌, Option, Result, OnOk, OnErr}
use Rattle.std.specs.Io.KnownBytes.{Appends}
use Rattle.session.specs.Output.{AppendsFront}

-- the bytes that wait to be written, and whether a write failed
pub record Page : Type 0 where
  pub waiting : List ℕ
  pub failed : Bool

-- what an output of type O contains, and whether a write to it has failed
module _ {O : Type 0} (contents : O → Option (List ℕ)) (has_failed : O → Bool) where
  -- A text was spelled on a page since the output had these bytes: it is written but for what waits, or a write failed, and then a
  -- prefix of it is written.
  pub record IsSpelled (base : Option (List ℕ)) (text : List ℕ) (out : O) (page : Page) : Type 0 where
    pub whole : page.failed ≡ false → (done : List ℕ) × (text ≡ done ++ page.waiting) × Appends base (contents out) done
    pub front : page.failed ≡ true → AppendsFront base (contents out) text
    pub cause : page.failed ≡ true → has_failed out ≡ true

  -- this was spelled behind whatever was spelled before
  pub record Spells (out : O) (page : Page) (out' : O) (page' : Page) (more : List ℕ) : Type 0 where
    pub behind : (base : Option (List ℕ)) (text : List ℕ) → IsSpelled base text out page → IsSpelled base (text ++ more) out' page'

  -- whatever was spelled is written, or a write failed, and a prefix of it is written
  pub record Ends {E : Type 0} (out : O) (page : Page) (out' : O) (result : Result (Unit {0}) E) : Type 0 where
    pub written : (base : Option (List ℕ)) (text : List ℕ) → IsSpelled base text out page → OnOk result (Appends base (contents out') text)
    pub front : (base : Option (List ℕ)) (text : List ℕ) → IsSpelled base text out page → OnErr result (AppendsFront base (contents out') text)
    pub cause : (base : Option (List ℕ)) (text : List ℕ) → IsSpelled base text out page → OnErr result (has_failed out' ≡ true)

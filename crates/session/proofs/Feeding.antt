-- Pieces of the input, one after another.
use Rattle.std.proofs.Common.{◌≡◌, ◌++◌, ℕ, List, [], ◌∷◌, Option, refl, sym, ap, subst, ◌∙◌, append_assoc, append-nil}
use Rattle.session.specs.Session.{Session}
use Rattle.session.specs.Exchange.{Exchange}
use Rattle.session.specs.Replies.{Replies, Asks, Feeds, Stops}
use Rattle.session.proofs.Writes.{appends-nothing, appends-both}

-- what comes of two pieces comes of them joined
pub replies-joined : (front back : List ℕ) (old mid new : Session) (a b : List Exchange) (t u : List ℕ)
    → Replies old front a mid t → Replies mid back b new u → Replies old (front ++ back) (a ++ b) new (t ++ u)
replies-joined [] back old mid new a b t u (asked, is, text) second =
    subst (λ (s : Session). Replies s back (a ++ b) new (t ++ u)) is
    (subst (λ (l : List Exchange). Replies mid back (l ++ b) new (t ++ u)) (sym asked)
    (subst (λ (l : List ℕ). Replies mid back ([] ++ b) new (l ++ u)) (sym text) second))
replies-joined (byte ∷ bytes) back old mid new a b t u (next, first, others, f, g, takes, rest, asked, text) second = (
  next,
  first,
  others ++ b,
  f,
  g ++ u,
  takes,
  replies-joined bytes back next mid new others b g u rest second,
  ap (λ (l : List Exchange). l ++ b) asked ∙ append_assoc first others b,
  ap (λ (l : List ℕ). l ++ u) text ∙ append_assoc f g u,
)

-- a piece from which a front, a text and one byte were taken
pub piece_parted : (piece front rest text left behind : List ℕ) (byte : ℕ) → piece ≡ front ++ rest → rest ≡ text ++ left → left ≡ byte ∷ behind
    → piece ≡ ((front ++ text) ++ byte ∷ []) ++ behind
piece_parted piece front rest text left behind byte whole next is =
    whole ∙ ap (λ (l : List ℕ). front ++ l) (next ∙ ap (λ (l : List ℕ). text ++ l) is) ∙ sym (append_assoc front text (byte ∷ behind))
    ∙ sym (append_assoc (front ++ text) (byte ∷ []) behind)

-- and one that was taken whole
pub piece_taken : (piece front rest text left : List ℕ) → piece ≡ front ++ rest → rest ≡ text ++ left → left ≡ [] → front ++ text ≡ piece
piece_taken piece front rest text left whole next none =
    sym (whole ∙ ap (λ (l : List ℕ). front ++ l) (next ∙ ap (λ (l : List ℕ). text ++ l) none ∙ append-nil text))

module _ {D : Type 0} (does : D → Exchange → D → Type 0) where
  pub asks-joined : (a b : List Exchange) (old mid new : D) → Asks does old a mid → Asks does mid b new → Asks does old (a ++ b) new
  asks-joined [] b old mid new is second = subst (λ (d : D). Asks does d b new) is second
  asks-joined (exchange ∷ others) b old mid new (next, gave, rest) second = (next, gave, asks-joined others b next mid new rest second)

  -- nothing is taken
  pub feeds-nothing : (s : Session) (d : D) (out : Option (List ℕ)) → Feeds does s [] s d d out out
  feeds-nothing s d out = record { asked = []; text = []; replies = (refl, refl, refl); asks = refl; written = appends-nothing out }

  -- one piece after another
  pub feeds-joined : (front back : List ℕ) (old mid new : Session) (d e f : D) (o p q : Option (List ℕ))
      → Feeds does old front mid d e o p → Feeds does mid back new e f p q → Feeds does old (front ++ back) new d f o q
  feeds-joined front back old mid new d e f o p q first second = record {
    asked = first.asked ++ second.asked;
    text = first.text ++ second.text;
    replies = replies-joined front back old mid new _ _ _ _ first.replies second.replies;
    asks = asks-joined first.asked second.asked d e f first.asks second.asks;
    written = appends-both o p q first.text second.text first.written second.written;
  }

  -- a write that fails within a piece fails within a longer one
  pub stops-longer : (piece more whole : List ℕ) (old new : Session) (d e : D) (o p : Option (List ℕ)) → whole ≡ piece ++ more
      → Stops does old piece new d e o p → Stops does old whole new d e o p
  stops-longer piece more whole old new d e o p is stops = record {
    front = stops.front;
    part = stops.part;
    rest = stops.rest ++ more;
    whole = is ∙ ap (λ (l : List ℕ). l ++ more) stops.whole ∙ append_assoc stops.front (stops.part ++ stops.rest) more
        ∙ ap (λ (l : List ℕ). stops.front ++ l) (append_assoc stops.part stops.rest more);
    mid = stops.mid;
    desk_mid = stops.desk_mid;
    out_mid = stops.out_mid;
    fed = stops.fed;
    asked = stops.asked;
    text = stops.text;
    next = stops.next;
    replies = stops.replies;
    at_once = stops.at_once;
    asks = stops.asks;
    written = stops.written;
    ended = stops.ended;
  }

-- what comes of two pieces joined comes of them one after the other
pub replies-parted : (front back : List ℕ) (old new : Session) (asked : List Exchange) (text : List ℕ) → Replies old (front ++ back) asked new text
    → (mid : Session) × (a : List Exchange) × (b : List Exchange) × (t : List ℕ) × (u : List ℕ)
    × Replies old front a mid t × Replies mid back b new u × (asked ≡ a ++ b) × (text ≡ t ++ u)
replies-parted [] back old new asked text replies = (old, [], asked, [], text, (refl, refl, refl), replies, refl, refl)
replies-parted (byte ∷ bytes) back old new asked text (next, first, others, f, g, takes, rest, all, whole) =
    let r = replies-parted bytes back next new others g rest in (
      r.0,
      first ++ r.1,
      r.2,
      f ++ r.3,
      r.4,
      (next, first, r.1, f, r.3, takes, r.5, refl, refl),
      r.6,
      all ∙ ap (λ (l : List Exchange). first ++ l) r.7 ∙ sym (append_assoc first r.1 r.2),
      whole ∙ ap (λ (l : List ℕ). f ++ l) r.8 ∙ sym (append_assoc f r.3 r.4),
    )

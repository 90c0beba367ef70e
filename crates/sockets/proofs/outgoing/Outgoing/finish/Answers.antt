use Rattle.std.proofs.Common.{◌≡◌, ◌∙◌, ◌++◌, ℕ, List, [], Option, None, Result, Ok, Err, OnOk, OnErr, true, drop, is_some, sym, ap, append-nil, true≢false}
use Rattle.std.proofs.Math.Seq.{drop-nil}
use Rattle.sockets.proofs.outgoing.Outgoing.finish.Goals as goal

-- where no write has failed, the call that was to send ended well
sent_well : {T E C : Type 0} (r : Result T E) (cut : Option C) {P : Type 0} → cut ≡ None → OnErr r (is_some cut ≡ true) → OnOk r P → P
sent_well (Ok x) cut none failed sent = sent
sent_well (Err e) cut none failed sent = absurd (true≢false (sym failed ∙ ap is_some none))

-- what was written is all, where nothing is held back any more
all_written : (bytes held : List ℕ) (sent : ℕ) → held ≡ [] → bytes ≡ bytes ++ drop sent held
all_written bytes held sent none = sym (append-nil bytes) ∙ ap (λ l. bytes ++ l) (sym (drop-nil sent) ∙ ap (drop sent) (sym none))

pub returns-in-None-clause-whole : goal.returns-in-None-clause-whole
returns-in-None-clause-whole g c =
    let sent = sent_well c.send.result c.send.new.self.cut c.in-None.is c.send.ensures.failed c.send.ensures.sent in
    all_written _ _ c.send.new.self.sent sent.0 ∙ c.send.ensures.kept

pub returns-clause-why : goal.returns-clause-why
returns-clause-why g c = c.send.new.self.why c.in-Some.why c.in-Some.is

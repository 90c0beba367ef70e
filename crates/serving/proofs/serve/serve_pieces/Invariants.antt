use Rattle.std.proofs.Common.{◌≡◌, false}
use Rattle.session.specs.Shelf.{Fits}
use Rattle.serving.specs.Turns.{AnswersTaken, GivesAll}
use Rattle.serving.proofs.serve.serve_pieces.Given as goal

-- what was given so far is answered, the shelf fits, and no write has failed
abbrev pub invariant-pieces : goal.invariant-pieces
invariant-pieces g l =
    record {
      fits : Fits (g.K.Desk.reached l.desk) l.shelf;
      works : l.session.ended ≡ false;
      sent : g.O.Output.has_failed l.fn.output ≡ false → g.O.Output.has_failed l.output ≡ false;
      answered : AnswersTaken g.K.Desk.does (λ given. GivesAll g.P.Pieces.gives l.fn.pieces l.fn.input given l.pieces l.input) l.fn.session l.session l.fn.desk l.desk
          (g.O.Output.contents l.fn.output) (g.O.Output.contents l.output);
    }

-- The logs and the ledgers of a run.
use Rattle.std.specs.Prelude.{ℕ}
use base.Stored.{Coded, coded×, coded_via, coded_ℕ}
use Rattle.logbook.specs.Pages.{Book, book_coded}

-- the log of the batches that are published, that of the commands that are ordered, and that of the moments of the batches' commits
pub record Logs : Type 0 where
  pub published : Book
  pub ordered : Book
  pub timed : Book

-- a run's logs; and the names of three ledgers: of how many commands are taken off, of how many are settled, and of how often it was found that
-- all are taken off and none comes any more
pub record Books : Type 0 where
  pub logs : Logs
  pub takes : ℕ
  pub settles : ℕ
  pub ends : ℕ

abbrev pub books_coded : Coded Books
books_coded =
    coded_via (coded× (coded× book_coded (coded× book_coded book_coded)) (coded× coded_ℕ (coded× coded_ℕ coded_ℕ)))
    (λ (b : Books). ((b.logs.published, (b.logs.ordered, b.logs.timed)), (b.takes, (b.settles, b.ends))))
    (λ x y e i. record {
      logs = record { published = (e i).0.0; ordered = (e i).0.1.0; timed = (e i).0.1.1 };
      takes = (e i).1.0;
      settles = (e i).1.1.0;
      ends = (e i).1.1.1;
    })

use denote.Exit.{yes}
use denote.Param.Send.{param_send, arg_send}
use Rattle.std.proofs.Common.{sym, subst, Option, List, ℕ}
use Rattle.std.specs.Prelude.{is_ok}
use Rattle.disk.proofs.Crossing.{device_send}
use Rattle.recovery.specs.Open.{state_of}
use Rattle.serving.specs.InputView as input
use Rattle.session.specs.OutputView as output
use Rattle.server_threads.specs.Served.{WasServed}
use Rattle.server_threads.specs.Streams.{ByOne, EndsAtHub}
use Rattle.server.proofs.program.serve_alone.Goals as goal

-- the store's device goes to the thread that writes
pub serve_streams-streamed-requires-send-D : goal.serve_streams-streamed-requires-send-D
serve_streams-streamed-requires-send-D g c κs within = param_send 3 _ (arg_send _ yes _ device_send)

-- the streams that come back are those within what serving gave back
pub returns : goal.returns
returns g c =
    let read : g.row.I.Denot → Option (List ℕ) = g.I.Read.remaining in
    let held : g.row.O.Denot → Option (List ℕ) = g.O.Write.contents in
    let s = c.serve_streams-streamed.result in
    let given = c.args.streams in
    let Life : Option (List ℕ) → Option (List ℕ) → Option (List ℕ) → Option (List ℕ) → Type 0 = λ i i' o o'.
    WasServed (ByOne (EndsAtHub s.served (state_of c.args.store) i i' o o' (input.failed_of s.input) (output.failed_of s.output))) (is_ok s.served) c.args.store s.store in (
      input.failed_of s.input,
      output.failed_of s.output,
      record {
        life =
            subst (λ x. Life (read x) (read c.into_reader.result) (held given.output) (held c.into_writer.result)) c.new-input.ensures.reader
            (subst (λ x. Life (read (input.reader_of c.new-input.result)) (read x) (held given.output) (held c.into_writer.result)) (sym c.into_reader.ensures)
            (subst (λ x. Life (read (input.reader_of c.new-input.result)) (read (input.reader_of s.input)) (held x) (held c.into_writer.result)) c.new-output.ensures.writer
            (subst (λ x. Life (read (input.reader_of c.new-input.result)) (read (input.reader_of s.input)) (held (output.writer_of c.new-output.result)) (held x)) (sym c.into_writer.ensures)
            c.serve_streams-streamed.ensures.served)));
        works = c.serve_streams-streamed.ensures.works;
      },
    )

use Rattle.workers_in_threads.proofs.packing.pack.Goals as goal

pub returns : goal.returns
returns g c = record {
  shared = c.requires.shared;
  member = c.requires.member;
  cells = c.requires.cells;
  pass = c.requires.pass.0;
  won_none = c.requires.pass.1;
  draws = c.requires.draws;
  seat = c.requires.seat;
  workspace = record {
    config = c.in_ok-workspace.ensures.config;
    names = c.in_ok-workspace.ensures.names;
    worker = c.in_ok-workspace.ensures.worker;
  };
  rest = c.requires.rest.0;
  busy = c.requires.rest.1;
  voice = c.requires.voice;
  silent = c.requires.silent;
}

use Rattle.std.proofs.Common.{refl}
use Rattle.outcome_run.proofs.Paths.{begins_path, ran_path}
use Rattle.outcome_run.proofs.laws.runs_keep_the_law.Goals as goal

pub returns : goal.returns
returns g c = record {
  ran = λ f n j sender most rounds before after calls ran clean law. (let path = ran_path f n j _ sender most rounds before after ran in
      record {
        drives = path.drives;
        moves = path.moved;
        driven = path.driven;
        holds = c.plants_keep_the_law.ensures.kept f n ran.begins.view j calls path.drives path.moved ran.begins.made ran.serves.end.plant
            ran.begins.is_made law path.driven clean;
      });
  recovered = λ f n j p calls begins clean law. (let path = begins_path f n j p begins in
      record {
        drives = path.drives;
        moves = path.moved;
        driven = path.driven;
        holds = c.plants_keep_the_law.ensures.kept f n begins.view j calls path.drives path.moved begins.made p.plant begins.is_made law path.driven clean;
      });
  lives = λ f n j sender most rounds before after ran clean. (let path = ran_path f n j _ sender most rounds before after ran in (
    record { sessions = n; found = j; view = ran.begins.view; first = ran.begins.made; drives = path.drives; moves = path.moved; last = ran.serves.end.plant },
    record {
      is_life = record { made = ran.begins.is_made; driven = path.driven; clean = clean };
      sessions_are = refl;
      found_is = refl;
      view_is = refl;
      last_is = refl;
    },
  ));
}

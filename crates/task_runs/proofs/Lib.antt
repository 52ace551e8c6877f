pub mod AwaitLaws

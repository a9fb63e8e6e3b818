pub mod PlanCosts

mod ValidPlans
mod Laws
